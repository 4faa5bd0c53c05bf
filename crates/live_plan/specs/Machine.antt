-- The live plan as a machine: the list of published plans, and for each worker the number of the plan that it keeps. Its
-- events are atomic steps of the running system.
use Rattle.std.specs.Prelude.{ℕ, ◌≡◌, ◌≤◌, max, List, [], ◌∷◌, ◌++◌, length, slice_index, slice_set, fold}
use Rattle.std.specs.List.{All}
use mathlib.Core.List.{IsPrefix}
use Rattle.plan_check.specs.Verified.{Verified}

-- the published plans, and the number of the plan that each worker keeps
pub record Machine : Type 0 where
  pub plans : List Verified
  pub numbers : List ℕ

-- a plan is published after the others; a worker enters and takes the last one; a worker learns that this number of plans is
-- published
pub data Event : Type 0 where
  Publish : Verified → Event
  Enter : ℕ → Event
  Learn : ℕ → ℕ → Event

-- the machine after a worker's number has changed
abbrev pub with_number : Machine → ℕ → ℕ → Machine
with_number m worker n = record { plans = m.plans; numbers = slice_set m.numbers worker n }

-- the machine after an event
abbrev pub after_event : Machine → Event → Machine
after_event m (Publish plan) = record { plans = m.plans ++ plan ∷ []; numbers = m.numbers }
after_event m (Enter worker) = with_number m worker (length m.plans)
after_event m (Learn worker n) = with_number m worker (max (slice_index m.numbers worker) n)

-- a worker learns a length that the list has already had
abbrev pub MayCome : Machine → Event → Type 0
MayCome m (Publish plan) = Unit {0}
MayCome m (Enter worker) = Unit {0}
MayCome m (Learn worker n) = n ≤ length m.plans

-- each of these events can happen when its turn is there
abbrev pub MayAllCome : Machine → List Event → Type 0
MayAllCome m [] = Unit {0}
MayAllCome m (e ∷ es) = MayCome m e × MayAllCome (after_event m e) es

-- the machine after a list of events
abbrev pub after_events : Machine → List Event → Machine
after_events = fold after_event

-- no number exceeds the length of the list
abbrev pub IsValid : Machine → Type 0
IsValid m = (worker : ℕ) → slice_index m.numbers worker ≤ length m.plans

-- no worker's number has fallen, each plan still has its number, and no number exceeds the length of the list
pub record IsLater (m after : Machine) : Type 0 where
  pub plans : IsPrefix m.plans after.plans
  pub numbers : (worker : ℕ) → slice_index m.numbers worker ≤ slice_index after.numbers worker
  pub valid : IsValid after

-- the events of a batch: a plan is published, a worker learns how many are
abbrev pub IsOfBatch : Event → Type 0
IsOfBatch (Publish plan) = Unit {0}
IsOfBatch (Enter worker) = ⊥
IsOfBatch (Learn worker n) = Unit {0}

-- such events lead from one machine to another
pub record LeadsTo (m after : Machine) : Type 0 where
  pub events : List Event
  pub each : All IsOfBatch events
  pub may : MayAllCome m events
  pub last : after_events m events ≡ after
