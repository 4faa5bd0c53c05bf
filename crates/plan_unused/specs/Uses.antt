-- The relays, rows and targets that covered titles use, and titles without a row.
use Rattle.std.specs.Prelude.{ℕ, ◌≡◌, List, [], Some, None, IsSomeAnd, slice_get}
use Rattle.std.specs.Option.{option_map_or}
use Rattle.plan_rules.specs.Rule.{Rule}
use Rattle.plan_rules.specs.declared.target.Target.{Target}
use Rattle.plan_model.specs.declared.spot.Spot.{Spot}
use Rattle.plan_model.specs.Network.{Network}
use Rattle.plan_model.specs.RowFor.{row_of}
use Rattle.plan_classes.specs.Classes.{IsReached}
use Rattle.plan_unused.specs.Met.{IsMet}

-- the row at this place of a node of the plan
abbrev pub HasRow : Network → ℕ → ℕ → Rule → Type 0
HasRow plan n r row = IsSomeAnd (slice_get plan.nodes n) (λ node. slice_get node.table r ≡ Some row)

-- the row at this place of the node counts for the spot
pub record CountsFor (plan : Network) (n r : ℕ) (spot : Spot) : Type 0 where
  pub node : spot.node ≡ n
  pub row : Rule
  pub counts : row_of plan spot ≡ Some row
  pub at : HasRow plan n r row

-- the targets of the row that counts for the spot, none if no row does
abbrev pub targets_of : Network → Spot → List Target
targets_of plan spot = option_map_or (λ (r : Rule). r.targets) (row_of plan spot) []

-- some marking leaves the target at this place of the spot's row the first open one
abbrev pub TakesTarget : Network → Spot → ℕ → Type 0
TakesTarget plan spot t = IsSomeAnd (slice_get plan.nodes spot.node) (λ node. IsReached node spot.ssn (targets_of plan spot) t)

-- a covered title gets to the relay
abbrev pub UsesRelay : Network → ℕ → Type 0
UsesRelay plan n = (number : ℕ) × (spot : Spot) × IsMet plan number spot × (spot.node ≡ n)

-- a covered title gets to the relay, where the row counts for it
abbrev pub UsesRow : Network → ℕ → ℕ → Type 0
UsesRow plan n r = (number : ℕ) × (spot : Spot) × IsMet plan number spot × CountsFor plan n r spot

-- and something prohibited leaves its target at this place the first open one
abbrev pub UsesTarget : Network → ℕ → ℕ → ℕ → Type 0
UsesTarget plan n r t = (number : ℕ) × (spot : Spot) × IsMet plan number spot × CountsFor plan n r spot × TakesTarget plan spot t

-- a title of this cover gets to a relay that has no row for it
abbrev pub HasGap : Network → ℕ → Spot → Type 0
HasGap plan number spot = IsMet plan number spot × (row_of plan spot ≡ None)
