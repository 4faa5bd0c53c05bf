use Rattle.std.proofs.Common.{◌+◌, ◌∙◌, List, drop, ap}
use Rattle.relay_watch.specs.Kept.{all_counted}
use Rattle.relay_watch.specs.declared.tally.Tally.{Tally}
use Rattle.relay_watch.proofs.KeptLemmas.{count_next}
use Rattle.relay_watch.proofs.ending.count_all.Goals as goal

pub loop-one-preserved : goal.loop-one-preserved
loop-one-preserved c =
    ap (λ (ts : List Tally). all_counted ts (drop (c.loop-one.one-index + 1) c.args.found.now)) c.count_unanswered.ensures
    ∙ count_next c.loop-one.relays c.args.found.now c.loop-one.one-index (record { number = 0; node = 0 }) c.loop-one-test.true
    ∙ c.loop-one.invariant
