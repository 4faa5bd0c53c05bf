-- Published plans by their numbers, and what a place has seen of them.
use Rattle.std.specs.Prelude.{◌≡◌, ◌⊎◌, ℕ, ◌-◌, ◌^◌, ◌<◌, List, take, length, slice_get, Option, Some, None, option_map}
use Rattle.std.specs.Option.{ForSome}
use mathlib.Core.List.{IsPrefix}
use Rattle.plan_check.specs.Verified.{Verified}

-- the number of nodes of a plan
abbrev pub nodes_of : Verified → ℕ
nodes_of plan = length plan.plan.nodes

-- a count rose, or is at its largest value
abbrev pub Rose : ℕ → ℕ → Type 0
Rose before after = (before < after) ⊎ (after ≡ 2 ^ 64 - 1)

-- plan number n of a list, counted from 1
abbrev pub HasPlan : List Verified → ℕ → Verified → Type 0
HasPlan plans n plan = (0 < n) × (slice_get plans (n - 1) ≡ Some plan)

-- each plan has this number of nodes
abbrev pub HaveNodes : ℕ → List Verified → Type 0
HaveNodes nodes plans = (i : ℕ) (plan : Verified) → slice_get plans i ≡ Some plan → nodes_of plan ≡ nodes

-- the pass of a place: its first plans up to this number, if the place reports its plans
abbrev pub pass_of : Option (List Verified) → ℕ → Option (List Verified)
pass_of plans seen = option_map (take seen) plans

-- the number is the length of the pass, and the plan is its last one
abbrev pub IsEnd : ℕ → Verified → List Verified → Type 0
IsEnd n plan pass = (n ≡ length pass) × HasPlan pass n plan

-- a pass begins with an earlier one; both places report their plans, or neither
abbrev pub Extends : Option (List Verified) → Option (List Verified) → Type 0
Extends (Some before) (Some after) = IsPrefix before after
Extends (Some before) None = ⊥
Extends None (Some after) = ⊥
Extends None None = Unit {0}

-- what a worker keeps: a plan with this number of nodes, the last one that its place has seen, if the place reports its plans
pub record IsKept (plans : Option (List Verified)) (seen nodes n : ℕ) (plan : Verified) : Type 0 where
  pub nodes_are : nodes_of plan ≡ nodes
  pub last : ForSome plans (λ l. (n ≡ seen) × HasPlan l n plan)
