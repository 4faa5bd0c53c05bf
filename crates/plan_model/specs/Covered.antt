-- Which titles a plan must bring to which places.
use Rattle.std.specs.Prelude.{ℕ, ◌≡◌, ◌<◌, ◌≤◌, IsTrue, nat_eq, length}
use Rattle.std.specs.List.{All, Any, Contains, starts_with}
use Rattle.plan_model.specs.declared.cover.Cover.{Cover}
use Rattle.plan_model.specs.declared.spot.Spot.{Spot}
use Rattle.plan_model.specs.Network.{Network}

-- the cover has the spot: its node, selector and SSN, and decimal digits that begin with the prefix and whose number is in range
pub record Covers (cover : Cover) (spot : Spot) : Type 0 where
  pub node : cover.node ≡ spot.node
  pub selector : cover.selector ≡ spot.selector
  pub ssn : cover.ssn ≡ spot.ssn
  pub decimal : All (λ d. d < 10) spot.digits
  pub begins : IsTrue (starts_with nat_eq spot.digits cover.prefix)
  pub least : cover.least ≤ length spot.digits
  pub most : length spot.digits ≤ cover.most

abbrev pub Covered : Network → Spot → Type 0
Covered plan spot = Any (λ cover. Covers cover spot) plan.covers

-- every cover that has the spot allows the place
abbrev pub IsAllowed : Network → Spot → ℕ → ℕ → Type 0
IsAllowed plan spot pc ssn = All (λ cover. Covers cover spot → Contains cover.allowed (pc, ssn)) plan.covers
