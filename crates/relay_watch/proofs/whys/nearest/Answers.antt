use Rattle.std.proofs.Common.{◌≡◌, ◌+◌, ◌∙◌, None, Option, map, drop, take, sym, subst}
use Rattle.std.specs.List.{All, filter}
use Rattle.relay_watch.specs.Repeats.{IsReached}
use Rattle.relay_watch.specs.Whys.{has_data, near_of, nearest_of}
use Rattle.relay_watch.specs.declared.near.Near.{Near}
use Rattle.relay_watch.proofs.Repeated.{reached_next}
use Rattle.relay_watch.proofs.WhyLemmas.{nearest_next}
use Rattle.relay_watch.proofs.whys.nearest.Goals as goal

pub loop-place-preserved : goal.loop-place-preserved
loop-place-preserved c =
    let plan = c.args.sent.now.plan.now in
    let node = c.args.sent.now.node in
    let to = c.args.sent.now.to in
    let sent = c.args.sent.now.message.now in
    let waiting = c.args.waiting.now in
    subst (λ (o : Option Near). (nearest_of o (map (near_of plan node to sent) (filter (has_data node sent)
    (drop (c.loop-place.place + 1) waiting)))
    ≡ nearest_of None (map (near_of plan node to sent) (filter (has_data node sent) waiting)))
    × All (IsReached plan node to sent o) (take (c.loop-place.place + 1) waiting)) (sym c.in_ok-best.ensures) (
      nearest_next plan node to sent c.loop-place.best waiting c.loop-place.place c.index-waiting-place.result c.loop-place-test.true
          c.index-waiting-place.is ∙ c.loop-place.invariant.0,
      reached_next plan node to sent c.loop-place.best waiting c.loop-place.place c.index-waiting-place.result c.loop-place-test.true
          c.index-waiting-place.is c.loop-place.invariant.1,
    )
