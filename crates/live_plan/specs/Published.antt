-- The rule of the published plans.
use Rattle.std.specs.Prelude.{◌≡◌, ◌≢◌, ℕ, ◌<◌, ◌≤◌, List, [], ◌++◌, take}
use Rattle.std.specs.Arc.{arc_value}
use mathlib.Core.Option.{some}
use lib.ListN.{get_elem?}
use Rattle.plan_check.specs.Verified.{Verified}
use Rattle.live_plan.specs.declared.known.Known.{Known}
use Rattle.live_plan.specs.declared.published.Shown.{Shown}
use Rattle.live_plan.specs.Plans.{HasPlan}

-- what a seat knows: a batch, its plans, and how many of them are published
abbrev pub known : ℕ → List Verified → ℕ → Known
known batch plans number = record { batch = batch; plans = plans; number = number }

-- what a new seat knows: batches are counted from 1
abbrev pub newcomer : Known
newcomer = known 0 [] 0

-- the plans that a seat has seen published
abbrev pub seen_of : Known → List Verified
seen_of v = take v.number v.plans

-- a seat that knows this batch has its plans, and has seen no more of them than are published
pub record Fits (s : Shown) (plans : List Verified) (v : Known) : Type 0 where
  pub earlier : v.batch ≤ s.batch
  pub same : v.batch ≡ s.batch → v.plans ≡ plans
  pub within : v.batch ≡ s.batch → v.number ≤ s.number

-- The rule, over what is shown and what each seat knows. The batch has a list of plans, and the plan that is shown is the one
-- of its number there.
pub record Kept (s : Shown) (views : List Known) : Type 0 where
  pub plans : List Verified
  pub begun : 0 < s.batch
  pub here : HasPlan plans s.number (arc_value s.plan)
  pub each : (seat : ℕ) (v : Known) → get_elem? views seat ≡ some v → Fits s plans v

-- What an entry shows. In the batch that the seat knows, the plan is that of its list, and no earlier one than it has seen.
-- In another batch it shows nothing.
pub record Saw (v : Known) (s : Shown) (w : Known) : Type 0 where
  pub here : v.batch ≡ s.batch → (w ≡ known v.batch v.plans s.number)
      × (HasPlan v.plans s.number (arc_value s.plan) × (v.number ≤ s.number))
  pub elsewhere : v.batch ≢ s.batch → w ≡ v

-- what the publisher knows when a batch begins: the plans that were published, and those that may be published in it
abbrev pub begun : Known → Shown → Known
begun v s = known s.batch (seen_of v ++ s.coming.value) s.number

-- what it knows when a plan of the batch is published
abbrev pub advanced : Known → Shown → Known
advanced v s = known v.batch v.plans s.number
