use Rattle.std.proofs.Common.{ℕ, ◌↔◌}
use Rattle.plan_model.specs.Network.{Network}
use Rattle.plan_model.proofs.SafeWays.{safe_not_bad}
use Rattle.plan_classes.specs.Classes.{ReachesAtLeast}
use Rattle.plan_verify.specs.declared.verdict.Verdict.{Verdict}
use Rattle.plan_verify.specs.declared.verdict.Verdict.TheVariants.{Accepted, Refused, TooWide}
use Rattle.plan_verify.specs.Lawful.{IsLawful, AcceptsBelowLimit, IsAccepted, IsSafeFor}
use Rattle.plan_verify.proofs.laws.verdicts_are_exact.Goals as goal

exact : (plan : Network) (verdict : Verdict) → IsLawful plan verdict → (ReachesAtLeast plan plan.limits.classes → ⊥)
    → (IsAccepted verdict ↔ (bound : ℕ) × IsSafeFor plan bound)
exact plan (Accepted accepted) lawful narrow = (λ t. (accepted.bound, lawful.0), λ s. tt)
exact plan (Refused same w) lawful narrow =
    (λ t. absurd t, λ s. safe_not_bad plan s.0 w.cover w.spot w.markings w.hops w.kind s.1.few s.1.safe lawful.bad)
exact plan (TooWide same) lawful narrow = (λ t. absurd t, λ s. narrow lawful)

accepted : (plan : Network) (verdict : Verdict) → IsLawful plan verdict → AcceptsBelowLimit plan verdict
    → (IsAccepted verdict ↔ ((bound : ℕ) × IsSafeFor plan bound) × (ReachesAtLeast plan plan.limits.classes → ⊥))
accepted plan (Accepted v) lawful narrow = (λ t. ((v.bound, lawful.0), narrow), λ s. tt)
accepted plan (Refused same w) lawful narrow = (λ t. absurd t, λ s. (exact plan (Refused same w) lawful s.1).1 s.0)
accepted plan (TooWide same) lawful narrow = (λ t. absurd t, λ s. s.1 lawful)

pub returns-clause-below : goal.returns-clause-below
returns-clause-below c = exact

pub returns-clause-accepted : goal.returns-clause-accepted
returns-clause-accepted c = accepted
