-- What an entry of the published plans gives.
use Rattle.std.specs.Arc.{arc_value}
use Rattle.plan_check.specs.Verified.{Verified}
use Rattle.live_plan.specs.declared.place.Entry.{Entry}

-- its plan, which all share, through the share at which only one worker counts
abbrev pub entry_plan : Entry → Verified
entry_plan e = arc_value (arc_value e.plan)
