-- no mixture that is safe for a bound up to 14 has a bad route
use Rattle.std.proofs.Common.{ℕ, ◌≤◌, List, [], ⊎_elim}
use Rattle.plan_model.specs.declared.spot.Spot.{Spot}
use Rattle.plan_model.specs.declared.kind.Kind.{Kind}
use Rattle.plan_model.specs.Network.{Network}
use Rattle.plan_model.specs.Covered.{Covered}
use Rattle.plan_model.specs.Verdicts.{EndsBadly}
use Rattle.plan_model.proofs.SafeWays.{not_bad, covered_by, not_forbidden}
use Rattle.plan_mixed.specs.declared.which.Which.TheVariants.{Old}
use Rattle.plan_mixed.specs.declared.holding.Holding.{Holding}
use Rattle.plan_change.specs.declared.mixed_hop.MixedHop.{MixedHop}
use Rattle.plan_change.specs.declared.turn.Turn.{Turn}
use Rattle.plan_change.specs.Mixture.{made_under, mixed_under, BothAllow, SafeUnder, BadUnder, BothSafe, BothBad}

any : Turn
any = record { which = Old; marking = [] }

pub safe_not_bad_under : (may : List Holding) (old new : Network) (bound i j : ℕ) (spot : Spot) (turns : List Turn) (hops : List MixedHop)
    (kind : Kind) → bound ≤ 14 → SafeUnder may old new bound → BadUnder may old new i j spot turns hops kind → ⊥
safe_not_bad_under may old new bound i j spot turns hops kind le safe bad =
    ⊎_elim
    (λ (h : EndsBadly old i (mixed_under may old new spot turns) kind).
    not_bad (made_under may old new) (λ s. Covered old s × Covered new s) (BothAllow old new) any bound old i spot turns kind le
    (λ s ts cov len. safe s ts cov.0 cov.1 len)
    (covered_by old i spot bad.old_covered, covered_by new j spot bad.new_covered)
    (λ pc ssn all. not_forbidden old i spot pc ssn bad.old_covered all.0) bad.some bad.each h)
    (λ (h : EndsBadly new j (mixed_under may old new spot turns) kind).
    not_bad (made_under may old new) (λ s. Covered old s × Covered new s) (BothAllow old new) any bound new j spot turns kind le
    (λ s ts cov len. safe s ts cov.0 cov.1 len)
    (covered_by old i spot bad.old_covered, covered_by new j spot bad.new_covered)
    (λ pc ssn all. not_forbidden new j spot pc ssn bad.new_covered all.1) bad.some bad.each h)
    bad.ends

pub safe_not_bad : (old new : Network) (bound i j : ℕ) (spot : Spot) (turns : List Turn) (hops : List MixedHop) (kind : Kind) → bound ≤ 14
    → BothSafe old new bound → BothBad old new i j spot turns hops kind → ⊥
safe_not_bad = safe_not_bad_under []
