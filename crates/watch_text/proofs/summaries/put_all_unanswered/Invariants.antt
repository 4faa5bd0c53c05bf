use Rattle.std.proofs.Common.{◌≡◌, ◌++◌, take}
use Rattle.std.specs.List.{flat_map}
use Rattle.watch_text.specs.Lines.{unanswered_line}
use Rattle.watch_text.proofs.summaries.put_all_unanswered.Given as goal

abbrev pub invariant-loop-one : goal.invariant-loop-one
invariant-loop-one l = l.text ≡ l.initial.text ++ flat_map (unanswered_line l.plan) (take l.one-index l.found)
