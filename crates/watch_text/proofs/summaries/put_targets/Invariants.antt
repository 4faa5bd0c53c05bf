use Rattle.std.proofs.Common.{◌≡◌, ◌++◌, drop}
use Rattle.watch_text.specs.Summaries.{target_lines}
use Rattle.watch_text.proofs.summaries.put_targets.Given as goal

-- the lines so far and those of the targets that are left
abbrev pub invariant-loop-target : goal.invariant-loop-target
invariant-loop-target l = l.text ++ target_lines l.name l.row l.target (drop l.target l.counts) ≡ l.initial.text
    ++ target_lines l.name l.row 0 l.counts
