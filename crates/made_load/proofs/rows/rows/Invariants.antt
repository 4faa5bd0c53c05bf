use Rattle.std.proofs.Common.{◌≡◌, map}
use Rattle.std.specs.List.{range_with_len}
use Rattle.made_load.specs.Relays.{row_of}
use Rattle.made_load.proofs.rows.rows.Given as goal

-- the rows so far
abbrev pub invariant-loop-digit : goal.invariant-loop-digit
invariant-loop-digit l = l.rows ≡ map (row_of l.number l.place) (range_with_len 0 l.digit)
