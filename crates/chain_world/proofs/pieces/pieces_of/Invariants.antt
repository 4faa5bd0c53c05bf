use Rattle.std.proofs.Common.{◌≡◌, ◌++◌, drop, map, Some}
use Rattle.chain_world.specs.Staged.{told_piece, pieces_in}
use Rattle.chain_world.proofs.pieces.pieces_of.Given as goal

-- the pieces so far, and those of the messages that are left
abbrev pub invariant-loop-one : goal.invariant-loop-one
invariant-loop-one l = map told_piece l.pieces ++ pieces_in (Some l.fn.dlr) (drop l.one-index l.octets) ≡ pieces_in (Some l.fn.dlr) l.octets
