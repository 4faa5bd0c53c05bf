use Rattle.std.proofs.Common.{◌≡◌, ◌++◌, drop}
use Rattle.watch_text.specs.Summaries.{row_lines}
use Rattle.watch_text.proofs.summaries.put_rows.Given as goal

-- the lines so far and those of the rows that are left
abbrev pub invariant-loop-row : goal.invariant-loop-row
invariant-loop-row l = l.text ++ row_lines l.name l.row (drop l.row l.rows) ≡ l.initial.text ++ row_lines l.name 0 l.rows
