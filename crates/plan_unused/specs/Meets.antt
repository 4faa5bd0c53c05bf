-- The classes of titles that covered titles get to within fourteen hops.
use Rattle.std.specs.Prelude.{ℕ, ◌≡◌, ◌≢◌, ◌+◌, ◌<◌, List, length, Some, slice_get}
use Rattle.std.specs.List.{All, AllPairs, Contains}
use Rattle.plan_model.specs.declared.cover.Cover.{Cover}
use Rattle.plan_model.specs.Network.{Network}
use Rattle.plan_classes.specs.Titles.{Titles, parts_of}
use Rattle.plan_classes.specs.Classes.{start_of, Decided, Reaches}
use Rattle.plan_unused.specs.Fitting.{HasFitting}

-- The classes that a plan meets after this number of hops, at most thirteen: the start of each cover, the parts of each undecided
-- class, and what each decided one is sent on as under its reached targets.
pub data Meets (plan : Network) : ℕ → Titles → Type 0 where
  Start : (number : ℕ) (cover : Cover) → slice_get plan.covers number ≡ Some cover → Meets plan 0 (start_of number cover)
  Part : (depth : ℕ) (c part : Titles) → Meets plan depth c → (Decided plan c → ⊥) → Contains (parts_of c) part → Meets plan depth part
  Onward : (depth : ℕ) (c next : Titles) (place : ℕ) → Meets plan depth c → depth < 13 → Decided plan c → Reaches plan c place
      → HasFitting plan c place next → Meets plan (depth + 1) next

-- the plan meets at least this number of classes
abbrev pub MeetsAtLeast : Network → ℕ → Type 0
MeetsAtLeast plan count =
    (cs : List Titles) × (length cs ≡ count) × AllPairs (λ c d. c ≢ d) cs × All (λ c. (depth : ℕ) × Meets plan depth c) cs
