use Rattle.std.proofs.Common.{◌≡◌, ◌<◌, ◌≤◌, ◌+◌, ◌^◌, [], ◌++◌, length, take, drop, map}
use Rattle.capture_file.specs.Standings.{GoesOn}
use Rattle.capture_file.specs.Views.{at_of, captured}
use Rattle.capture_file.proofs.pieces.take_piece.Given as goal

abbrev pub invariant-joined : goal.invariant-joined
invariant-joined l = record {
  going : GoesOn [] (at_of l.fn.start l.fn.section) l.fn.from (l.fn.kept.items ++ l.fn.piece) (map captured l.packets.items)
      (at_of l.expected l.section) l.place
      (drop l.taken l.kept.items ++ l.rest);
  front : take (length l.fn.kept.items) l.kept.items ≡ l.fn.kept.items;
  taken : l.taken ≤ length l.kept.items;
  room : l.place + length (drop l.taken l.kept.items ++ l.rest) < 2 ^ 64;
}

abbrev pub decreases-joined : goal.decreases-joined
decreases-joined l = length (drop l.taken l.kept.items ++ l.rest)
