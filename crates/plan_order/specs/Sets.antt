-- Sets of relays, as lists of their places in the plan.
use Rattle.std.specs.Prelude.{ℕ, ◌≡◌, ◌≢◌, ◌<◌, Bool, ◌==◌, List, length, IsSomeAnd, slice_get}
use Rattle.std.specs.List.{All, AllPairs, concat, list_any}
use Rattle.plan_model.specs.Network.{Network}

-- whether the relay is of the set
abbrev pub is_in : List ℕ → ℕ → Bool
is_in set node = list_any (λ own. own == node) set

-- both lists have the same relays
abbrev pub SameSet : List ℕ → List ℕ → Type 0
SameSet a b = (node : ℕ) → is_in a node ≡ is_in b node

-- at least one relay, and each before those after it in the plan
pub record IsStepSet (set : List ℕ) : Type 0 where
  pub some : 0 < length set
  pub ascending : AllPairs (λ a b. a < b) set

-- such sets, with no relay in two of them
pub record AreStepSets (sets : List (List ℕ)) : Type 0 where
  pub each : All IsStepSet sets
  pub once : AllPairs (λ a b. a ≢ b) (concat sets)

-- the rows of this relay are not the same in both plans
abbrev pub Differs : Network → Network → ℕ → Type 0
Differs old new node = IsSomeAnd (slice_get old.nodes node) (λ a. IsSomeAnd (slice_get new.nodes node) (λ b. a.table ≢ b.table))
