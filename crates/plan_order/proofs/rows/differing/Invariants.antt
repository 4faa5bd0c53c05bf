use Rattle.plan_order.specs.Searching.{AreFirst}
use Rattle.plan_order.proofs.rows.differing.Given as goal

-- the relays so far whose rows differ
abbrev pub invariant-loop-node : goal.invariant-loop-node
invariant-loop-node l = AreFirst l.old l.new l.node l.differ
