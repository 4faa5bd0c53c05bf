use Rattle.std.proofs.Common.{◌≡◌, ◌≤◌, ◌++◌, length, take, drop}
use Rattle.capture_file.proofs.pieces.fill.Given as goal

abbrev pub invariant-moves : goal.invariant-moves
invariant-moves l = record {
  joined : drop l.taken l.kept.items ++ l.rest ≡ drop l.taken l.fn.kept.items ++ l.fn.piece;
  front : take (length l.fn.kept.items) l.kept.items ≡ l.fn.kept.items;
  longer : length l.fn.kept.items ≤ length l.kept.items;
}

abbrev pub decreases-moves : goal.decreases-moves
decreases-moves l = length l.rest
