-- What a verdict says of a plan.
use Rattle.std.specs.Prelude.{ℕ, ◌≤◌}
use Rattle.plan_model.specs.Network.{Network}
use Rattle.plan_model.specs.Verdicts.{Safe, Tight}
use Rattle.plan_model.specs.Spots.{IsInRange}
use Rattle.plan_classes.specs.Classes.{ReachesAtLeast}
use Rattle.plan_verify.specs.declared.verdict.Verdict.{Verdict}
use Rattle.plan_verify.specs.declared.verdict.Verdict.TheVariants.{Accepted, Refused, TooWide}
use Rattle.plan_verify.specs.Witnesses.{IsWitness}

-- the plan that the verdict gives back
abbrev pub plan_of : Verdict → Network
plan_of (Accepted accepted) = accepted.plan
plan_of (Refused plan witness) = plan
plan_of (TooWide plan) = plan

-- the plan is safe for the bound, which is from 1 to 14
pub record IsSafeFor (plan : Network) (bound : ℕ) : Type 0 where
  pub some : 1 ≤ bound
  pub few : bound ≤ 14
  pub safe : Safe plan bound

-- An accepted plan is safe for its bound, which its longest route reaches, and the numbers of that route are in range. A refused
-- plan has the bad route that is shown. A plan that is too wide reaches at least as many classes of titles as its limit.
abbrev pub IsLawful : Network → Verdict → Type 0
IsLawful plan (Accepted accepted) =
    IsSafeFor plan accepted.bound × Tight plan accepted.bound accepted.longest.spot accepted.longest.markings
    × IsInRange plan accepted.longest.spot accepted.longest.markings
IsLawful plan (Refused same witness) = IsWitness plan witness
IsLawful plan (TooWide same) = ReachesAtLeast plan plan.limits.classes

-- a plan that is accepted reaches fewer classes of titles than its limit
abbrev pub AcceptsBelowLimit : Network → Verdict → Type 0
AcceptsBelowLimit plan (Accepted accepted) = ReachesAtLeast plan plan.limits.classes → ⊥
AcceptsBelowLimit plan (Refused same witness) = Unit {0}
AcceptsBelowLimit plan (TooWide same) = Unit {0}

abbrev pub IsAccepted : Verdict → Type 0
IsAccepted (Accepted accepted) = Unit {0}
IsAccepted (Refused plan witness) = ⊥
IsAccepted (TooWide plan) = ⊥
