use Rattle.std.proofs.Common.{ℕ, List, map, subst}
use Rattle.std.specs.Prelude.{IfOk}
use Rattle.std.specs.List.{All}
use Rattle.relay_ways.specs.Explained.{AreConditions, AreShortest, IsHandled}
use Rattle.relay_ways.specs.Ways as relay
use Rattle.relay_watch.proofs.Reasoned.{asked_of}
use Rattle.relay_watch.proofs.searching.explained.Goals as goal

pub returns : goal.returns
returns c =
    let plan = c.args.sent.now.plan.now in
    let node = c.args.sent.now.node in
    let to = c.args.sent.now.to in
    let sent = c.args.sent.now.message.now in
    let origin = c.args.arrival.now.origin in
    asked_of plan node to sent c.args.arrival.now c.explain.result c.requires
    (subst (λ (b : List ℕ). IfOk c.explain.result (λ ways. AreConditions plan node origin b to sent (map (λ x. x.condition) ways)))
    c.as_slice.ensures c.explain.ensures.conditions)
    (subst (λ (b : List ℕ). IfOk c.explain.result
    (λ ways. AreShortest to sent (relay.ways plan node origin b) (map (λ x. x.condition) ways)))
    c.as_slice.ensures c.explain.ensures.shortest)
    (subst (λ (b : List ℕ). IfOk c.explain.result (All (IsHandled plan node origin b))) c.as_slice.ensures c.explain.ensures.handled)
