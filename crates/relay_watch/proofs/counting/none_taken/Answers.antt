use Rattle.std.proofs.Common.{◌∙◌}
use Rattle.relay_watch.proofs.KeptLemmas.{nones_more}
use Rattle.relay_watch.proofs.counting.none_taken.Goals as goal

pub loop-preserved : goal.loop-preserved
loop-preserved c = c.in_ok-add_none.ensures ∙ nones_more c.loop.counts c.loop.index c.loop.invariant
