use Rattle.std.proofs.Common.{ℕ, ◌↔◌}
use Rattle.plan_model.specs.Network.{Network}
use Rattle.plan_mixed.specs.Mixed.{MixedReachAtLeast}
use Rattle.plan_change.specs.declared.answer.Change.{Change}
use Rattle.plan_change.specs.declared.answer.Change.TheVariants.{Kept, Broken, TooWide}
use Rattle.plan_change.specs.Changes.{IsLawfulChange, IsKept, IsMixedSafeFor}
use Rattle.plan_change.proofs.SafeMixtures.{safe_not_bad}
use Rattle.plan_change.proofs.laws.changes_are_exact.Goals as goal

exact : (old new : Network) (change : Change) → IsLawfulChange old new change → (MixedReachAtLeast old new old.limits.classes → ⊥)
    → (IsKept change ↔ (bound : ℕ) × IsMixedSafeFor old new bound)
exact old new (Kept bound spot turns) lawful narrow = (λ t. (bound, (lawful.0, lawful.1)), λ s. tt)
exact old new (Broken i j spot turns hops kind) lawful narrow =
    (λ t. absurd t, λ s. safe_not_bad old new s.0 i j spot turns hops kind s.1.0 s.1.1 lawful.0)
exact old new TooWide lawful narrow = (λ t. absurd t, λ s. narrow lawful)

pub returns : goal.returns
returns c = exact
