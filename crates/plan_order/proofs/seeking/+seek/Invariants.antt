use Rattle.std.proofs.Common.{◌≡◌, ◌+◌, ◌*◌, false, length, take}
use Rattle.std.specs.List.{All}
use Rattle.plan_order.specs.Searching.{IsKnown, IsClosed}
use Rattle.plan_order.proofs.seeking.+seek.Given as goal

-- Fewer relays are left after a step.
abbrev pub decreases-seek : goal.decreases-seek
decreases-seek l = 6 * length l.left.now + 5

abbrev pub decreases-seek_parts : goal.decreases-seek_parts
decreases-seek_parts l = 6 * length l.left.now + 4

abbrev pub decreases-seek_by_grown : goal.decreases-seek_by_grown
decreases-seek_by_grown l = 6 * length l.left.now + 3

abbrev pub decreases-seek_each : goal.decreases-seek_each
decreases-seek_each l = 6 * length l.left.now + 2

abbrev pub decreases-seek_one : goal.decreases-seek_one
decreases-seek_one l = 6 * length l.left.now + 1

abbrev pub decreases-seek_by : goal.decreases-seek_by
decreases-seek_by l = 6 * length l.left.now

-- no order goes on by the relays so far, if no step was too wide
abbrev pub invariant-seek_each-loop-node : goal.invariant-seek_each-loop-node
invariant-seek_each-loop-node l = record {
  known : IsKnown l.plans.old.now l.plans.new.now l.known;
  narrow : l.known.wide ≡ false → l.fn.known.wide ≡ false;
  closed : l.known.wide ≡ false → All (IsClosed l.plans.old.now l.plans.new.now l.done) (take l.node-index l.left);
}
