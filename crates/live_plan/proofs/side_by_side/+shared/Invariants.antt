use Rattle.std.proofs.Common.{◌+◌, ◌*◌, length}
use Rattle.live_plan.proofs.side_by_side.+shared.Given as goal

abbrev pub decreases-beside : goal.decreases-beside
decreases-beside g l = 3 * length l.others.now + 2

abbrev pub decreases-beside-here : goal.decreases-beside-here
decreases-beside-here g l = 3 * length l.others.now + 1

abbrev pub decreases-shared_out : goal.decreases-shared_out
decreases-shared_out g l = 3 * length l.items.now
