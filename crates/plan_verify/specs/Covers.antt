-- Verdicts on the covers of a plan, each by itself.
use Rattle.std.specs.Prelude.{ℕ, max, List, [], ◌∷◌}
use Rattle.plan_model.specs.declared.cover.Cover.{Cover}
use Rattle.plan_model.specs.Alone.{alone}
use Rattle.plan_model.specs.Network.{Network}
use Rattle.plan_verify.specs.Lawful.{IsLawful}
use Rattle.plan_verify.specs.declared.verdict.Verdict.{Verdict}
use Rattle.plan_verify.specs.declared.verdict.Verdict.TheVariants.{Accepted, Refused, TooWide}

-- lawful verdicts on the plan with each of the covers alone, one for each in their order
abbrev pub AreVerdictsOn : Network → List Cover → List Verdict → Type 0
AreVerdictsOn plan [] [] = Unit {0}
AreVerdictsOn plan [] (verdict ∷ verdicts) = ⊥
AreVerdictsOn plan (cover ∷ covers) [] = ⊥
AreVerdictsOn plan (cover ∷ covers) (verdict ∷ verdicts) = IsLawful (alone plan cover) verdict × AreVerdictsOn plan covers verdicts

abbrev pub IsRefused : Verdict → Type 0
IsRefused (Accepted accepted) = ⊥
IsRefused (Refused plan witness) = Unit {0}
IsRefused (TooWide plan) = ⊥

-- the bound of an accepted plan
abbrev pub bound_of : Verdict → ℕ
bound_of (Accepted accepted) = accepted.bound
bound_of (Refused plan witness) = 0
bound_of (TooWide plan) = 0

-- the greatest bound of those that are accepted
abbrev pub greatest_bound : List Verdict → ℕ
greatest_bound [] = 0
greatest_bound (verdict ∷ verdicts) = max (bound_of verdict) (greatest_bound verdicts)
