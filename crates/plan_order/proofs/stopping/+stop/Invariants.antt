use Rattle.std.proofs.Common.{◌+◌, ◌*◌, length}
use Rattle.plan_order.proofs.stopping.+stop.Given as goal

-- Fewer relays are left after a step.
abbrev pub decreases-stop_at : goal.decreases-stop_at
decreases-stop_at l = 2 * length l.left.now + 1

abbrev pub decreases-stop_after : goal.decreases-stop_after
decreases-stop_after l = 2 * length l.left.now
