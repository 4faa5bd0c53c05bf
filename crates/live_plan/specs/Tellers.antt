-- What the publisher has published, and what it may publish in this batch.
use Rattle.std.specs.Prelude.{List}
use Rattle.std.specs.Arc.{arc_value}
use Rattle.plan_check.specs.Verified.{Verified}
use Rattle.live_plan.specs.declared.known.Known.{Known}
use Rattle.live_plan.specs.declared.published.Shown.{Shown}
use Rattle.live_plan.specs.declared.teller.Teller.{Teller}
use Rattle.live_plan.specs.Published.{seen_of}
use Rattle.live_plan.specs.Seats.{known_by}

-- what the publisher knows
abbrev pub told_by : Teller → Known
told_by t = known_by t.writer.desk.place

-- what the publisher shows
abbrev pub shown_by : Teller → Shown
shown_by t = arc_value t.writer.desk.shown.value.shown

-- the publisher's list: all plans that were published
abbrev pub plans_of : Teller → List Verified
plans_of t = seen_of (told_by t)

-- these, and those that may still be published in this batch
abbrev pub due_of : Teller → List Verified
due_of t = (told_by t).plans
