use Rattle.std.proofs.Common.{arith}
use Rattle.capture_file.proofs.PieceLemmas.{moved-more, front-more, longer}
use Rattle.capture_file.proofs.pieces.fill.Goals as goal

pub moves-preserved : goal.moves-preserved
moves-preserved c = record {
  joined = moved-more _ _ _ _ _ _ _ c.in_ok-extend_from_slice.ensures.items (omega arith) (omega arith) c.moves.invariant.joined;
  front = front-more _ _ _ _ c.in_ok-extend_from_slice.ensures.items c.moves.invariant.front;
  longer = longer _ _ _ _ c.in_ok-extend_from_slice.ensures.items c.moves.invariant.longer;
}
