-- What is kept of a seat.
use Rattle.std.specs.Prelude.{◌≡◌, ℕ, ◌^◌, ◌<◌, ◌≤◌, length, Option}
use Rattle.std.specs.Arc.{arc_value}
use Rattle.atomic_table.specs.declared.shared.Seat.{Seat}
use Rattle.left_right.specs.declared.part.Part.{Part}
use Rattle.left_right.specs.declared.board.Doing.{Doing}
use Rattle.left_right.specs.Sides.{view}
use Rattle.live_plan.specs.declared.known.Known.{Known}
use Rattle.live_plan.specs.declared.published.Published.{Published}
use Rattle.live_plan.specs.declared.published.Shown.{Shown}
use Rattle.live_plan.specs.Plans.{HasPlan, HaveNodes}

-- what a seat knows
abbrev pub known_by : Seat (Option (Part Published)) (Doing Published Known) → Known
known_by place = view place

-- a reader knows this batch, `passed` of its plans have been seen, and each plan has this number of nodes
pub record HasPassed (nodes batch passed : ℕ) (v : Known) : Type 0 where
  pub batch_is : v.batch ≡ batch
  pub some : 0 < passed
  pub within : passed ≤ v.number
  pub alike : HaveNodes nodes v.plans

-- the publisher knows the batch and the number that are shown, and the plan that is shown is that one of its list
pub record IsTelling (nodes : ℕ) (s : Shown) (v : Known) : Type 0 where
  pub batch_is : v.batch ≡ s.batch
  pub number_is : v.number ≡ s.number
  pub plan_is : HasPlan v.plans s.number (arc_value s.plan)
  pub alike : HaveNodes nodes v.plans
  pub bounded : length v.plans < 2 ^ 32
