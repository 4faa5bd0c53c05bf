use Rattle.std.proofs.Common.{drop}
use Rattle.sccp_conform.proofs.JudgingLemmas.{GoesOn}
use Rattle.sccp_conform.proofs.judging.put_items.Given as goal

-- what is there, and the text of the items that are left
abbrev pub invariant-loop-item : goal.invariant-loop-item
invariant-loop-item l = GoesOn l.plan l.items l.fn.watch l.fn.text (drop l.item-index l.items) l.watch l.text
