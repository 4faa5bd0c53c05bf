-- What a search for an order keeps, and what it finds.
use Rattle.std.specs.Prelude.{ℕ, ◌≡◌, ◌<◌, ◌≤◌, ◌⊎◌, Bool, true, false, not, IsTrue, List, [], ◌∷◌, ◌++◌, length, Option, Some, None}
use Rattle.std.specs.List.{All, AllPairs, filter}
use Rattle.plan_model.specs.Network.{Network}
use Rattle.plan_mixed.specs.Mixed.{MixedReachAtLeast}
use Rattle.plan_change.specs.declared.answer.Change.{Change}
use Rattle.plan_change.specs.declared.answer.Change.TheVariants.{Kept, Broken, TooWide}
use Rattle.plan_order.specs.declared.safe_step.SafeStep.{SafeStep}
use Rattle.plan_order.specs.declared.stuck.Stuck.{Stuck}
use Rattle.plan_order.specs.declared.outcome.Outcome.{Outcome}
use Rattle.plan_order.specs.declared.outcome.Outcome.TheVariants.{Safe, Refused, Wide}
use Rattle.plan_order.specs.declared.known.Known.{Known}
use Rattle.plan_order.specs.declared.found.Found.{Found}
use Rattle.plan_order.specs.declared.found.Found.TheVariants.{Steps, Nowhere, GaveUp}
use Rattle.plan_order.specs.Sets.{is_in, SameSet, IsStepSet, Differs}
use Rattle.plan_order.specs.Steps.{during, IsSafeFor, IsSafeStep, IsReached, IsStep, AreSteps, sets_of}
use Rattle.plan_order.specs.Orders.{GoesOn, IsDeadEnd, IsRefusal}
use Rattle.plan_order.specs.Refusing.{Refuses}

-- a relay that is not of the set
abbrev pub is_out : List ℕ → ℕ → Bool
is_out set node = not (is_in set node)

-- the relays that are left after a step
abbrev pub without : List ℕ → List ℕ → List ℕ
without left step = filter (is_out step) left

-- The relays whose rows differ, in two parts: those that are done, and those that are left, in the order of the plan.
pub record IsSplit (old new : Network) (done left : List ℕ) : Type 0 where
  pub before : All (Differs old new) done
  pub after : All (Differs old new) left
  pub ascending : AllPairs (λ a b. a < b) left
  pub apart : (node : ℕ) → IsTrue (is_in left node) → is_in done node ≡ false
  pub whole : (node : ℕ) → Differs old new node → is_in done node ≡ false → IsTrue (is_in left node)

-- the relays whose rows differ among the first ones of this number, in the order of the plan
pub record AreFirst (old new : Network) (count : ℕ) (differ : List ℕ) : Type 0 where
  pub each : All (Differs old new) differ
  pub below : All (λ node. node < count) differ
  pub ascending : AllPairs (λ a b. a < b) differ
  pub whole : (node : ℕ) → node < count → Differs old new node → IsTrue (is_in differ node)

-- the outcome of a change of the relays of a step
abbrev pub outcome_of : Change → Outcome
outcome_of (Kept bound spot turns) = Safe bound
outcome_of (Broken i j spot turns hops kind) = Refused
outcome_of TooWide = Wide

-- what is known of a step after its walk
abbrev pub IsOutcome : Network → Network → List ℕ → List ℕ → Outcome → Type 0
IsOutcome old new done step (Safe bound) = IsSafeFor old new done step bound × IsReached old new done step bound
IsOutcome old new done step Refused = IsSafeStep old new done step → ⊥
IsOutcome old new done step Wide = MixedReachAtLeast old new old.limits.classes

-- a bound of the step, or that it is not safe; without a walk that met too many classes
abbrev pub IsBoundOf : Network → Network → List ℕ → List ℕ → Known → Option ℕ → Type 0
IsBoundOf old new done step known (Some bound) = IsSafeFor old new done step bound × IsReached old new done step bound
IsBoundOf old new done step known None = known.wide ≡ false → IsSafeStep old new done step → ⊥

-- a safe step of some relays of these, in the order of the plan
pub record IsNextStep (old new : Network) (done left : List ℕ) (step : SafeStep) : Type 0 where
  pub safe : IsStep old new done step
  pub among : All (λ node. IsTrue (is_in left node)) step.nodes
  pub ascending : AllPairs (λ a b. a < b) step.nodes
  pub some : 0 < length step.nodes

-- the step of one relay, or that it is not safe
abbrev pub IsAlone : Network → Network → List ℕ → ℕ → Known → Option SafeStep → Type 0
IsAlone old new done node known (Some step) = IsStep old new done step × (step.nodes ≡ node ∷ [])
IsAlone old new done node known None = known.wide ≡ false → IsSafeStep old new done (node ∷ []) → ⊥

-- a step of one relay, or that none of these is a safe step
abbrev pub IsFirst : Network → Network → List ℕ → List ℕ → Known → Option SafeStep → Type 0
IsFirst old new done left known (Some step) = IsNextStep old new done left step
IsFirst old new done left known None = known.wide ≡ false → All (λ node. IsSafeStep old new done (node ∷ []) → ⊥) left

-- the step, or a safe step of its relays and this one after them
abbrev pub IsGrown : Network → Network → List ℕ → SafeStep → ℕ → SafeStep → Type 0
IsGrown old new done step node more =
    (more ≡ step) ⊎ (All (λ own. own < node) step.nodes × (more.nodes ≡ step.nodes ++ node ∷ []) × IsStep old new done more)

-- no order goes on by this relay
abbrev pub IsClosed : Network → Network → List ℕ → ℕ → Type 0
IsClosed old new done node = (IsSafeStep old new done (node ∷ []) → ⊥) ⊎ IsDeadEnd old new (done ++ node ∷ [])

-- What a search has met: dead ends, refusals, and whether some step was too wide. After such a step nothing is said of dead ends.
pub record IsKnown (old new : Network) (known : Known) : Type 0 where
  pub classes : known.wide ≡ true → MixedReachAtLeast old new old.limits.classes
  pub apart : AllPairs (λ a b. SameSet a b → ⊥) known.dead
  pub ends : known.wide ≡ false → All (λ set. All (Differs old new) set × IsDeadEnd old new set) known.dead
  pub refused : All (Refuses old new) known.refusals

-- sets of some relays of these, one after the other, without repeats
abbrev pub AreAmong : List ℕ → List (List ℕ) → Type 0
AreAmong left [] = Unit {0}
AreAmong left (step ∷ steps) =
    All (λ node. IsTrue (is_in left node)) step × IsStepSet step × AreAmong (without left step) steps

-- safe steps after which all relays that differ have the new plan
pub record IsWayOn (old new : Network) (done left : List ℕ) (steps : List SafeStep) : Type 0 where
  pub safe : AreSteps old new done steps
  pub on : GoesOn old new done (sets_of steps)
  pub among : AreAmong left (sets_of steps)

-- What a search finds: steps, or a fact that shows that there are none. If it gave up, it has met many dead ends.
abbrev pub IsFoundIf : Network → Network → List ℕ → List ℕ → Type 0 → Known → Found → Type 0
IsFoundIf old new done left nowhere known (Steps steps) = IsWayOn old new done left steps
IsFoundIf old new done left nowhere known Nowhere = known.wide ≡ false → nowhere
IsFoundIf old new done left nowhere known GaveUp = 256 ≤ length known.dead

abbrev pub IsFound : Network → Network → List ℕ → List ℕ → Known → Found → Type 0
IsFound old new done left known found = IsFoundIf old new done left (IsDeadEnd old new done) known found

-- the bad mixed route of the step of one relay, or that it reaches too many classes
abbrev pub IsWhy : Network → Network → List ℕ → ℕ → Option Stuck → Type 0
IsWhy old new done node (Some stuck) = (stuck.node ≡ node) × IsRefusal (during (length old.nodes) done (node ∷ [])) old new stuck.why
IsWhy old new done node None = MixedReachAtLeast old new old.limits.classes
