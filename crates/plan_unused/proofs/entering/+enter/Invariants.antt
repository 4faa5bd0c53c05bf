use Rattle.std.proofs.Common.{◌+◌, ◌*◌, take}
use Rattle.std.specs.List.{All}
use Rattle.plan_unused.specs.Walks.{IsRankedBy, Grows}
use Rattle.plan_unused.proofs.entering.+enter.Given as goal

-- a part has fewer open digits
abbrev pub decreases-enter : goal.decreases-enter
decreases-enter l = 2 * l.class.now.most + 1

abbrev pub decreases-enter_parts : goal.decreases-enter_parts
decreases-enter_parts l = 2 * l.class.now.most

-- the parts so far have ranks
abbrev pub invariant-enter_parts-loop-part : goal.invariant-enter_parts-loop-part
invariant-enter_parts-loop-part l = record {
  grows : Grows l.plan l.depth l.fn.met l.met;
  ranked : All (λ part. IsRankedBy l.met part l.depth) (take l.part-index l.part-items);
}
