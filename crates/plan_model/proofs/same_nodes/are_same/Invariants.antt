use Rattle.std.proofs.Common.{◌≡◌, take}
use Rattle.std.specs.Prelude.{map}
use Rattle.plan_model.specs.SameNodes.{without_rows}
use Rattle.plan_model.proofs.same_nodes.are_same.Given as goal

-- the relays so far are the same
abbrev pub invariant-loop-i : goal.invariant-loop-i
invariant-loop-i l = map without_rows (take l.i l.old) ≡ map without_rows (take l.i l.new)
