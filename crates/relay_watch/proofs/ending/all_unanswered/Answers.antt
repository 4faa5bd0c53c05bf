use Rattle.std.proofs.Common.{◌+◌, ◌++◌, ◌∙◌, List, Option, drop, ap}
use Rattle.std.specs.Prelude.{filter_map}
use Rattle.std.specs.Option.{option_to_list}
use Rattle.relay_watch.specs.Kept.{unanswered}
use Rattle.relay_watch.specs.declared.unanswered.Unanswered.{Unanswered}
use Rattle.relay_watch.proofs.KeptLemmas.{unanswered_next}
use Rattle.relay_watch.proofs.ending.all_unanswered.Goals as goal

pub loop-arrival-preserved : goal.loop-arrival-preserved
loop-arrival-preserved c =
    ap (λ (xs : List Unanswered). xs ++ filter_map (unanswered c.args.named.now)
    (drop (c.loop-arrival.arrival-index + 1) c.args.waiting.now))
    (c.in_ok-add_if_any.ensures ∙ ap (λ (o : Option Unanswered). c.loop-arrival.found ++ option_to_list o) c.unanswered.ensures)
    ∙ unanswered_next c.args.named.now c.loop-arrival.found c.args.waiting.now c.loop-arrival.arrival-index c.arrival-item.result
    c.loop-arrival-test.true c.arrival-item.is
    ∙ c.loop-arrival.invariant
