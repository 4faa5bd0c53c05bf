-- The plan as a whole, by lawful verdicts on its covers.
use Rattle.std.specs.Prelude.{ℕ, ◌≡◌, ◌<◌, ◌≤◌, List, [], ◌∷◌, length, Some, slice_get, get_or, refl}
use Rattle.std.specs.List.{All, Any}
use Rattle.std.proofs.Common.{zero, suc, sym, ap, subst, ⊎_elim, arith}
use Rattle.std.proofs.lemmas.Bool.{cases_lt}
use Rattle.std.proofs.lemmas.Option.{slice_get-get_or, slice_get_read, slice_get_within, get_or_from_slice_get}
use Rattle.sccp_base.specs.declared.mark.Mark.{Mark}
use Rattle.plan_model.specs.declared.cover.Cover.{Cover}
use Rattle.plan_model.specs.declared.spot.Spot.{Spot}
use Rattle.plan_model.specs.Alone.{alone}
use Rattle.plan_model.specs.Network.{Network}
use Rattle.plan_model.specs.Verdicts.{Safe, Tight}
use Rattle.plan_model.proofs.Alone.{safe_by_covers, safe_for_more, tight_by_covers}
use Rattle.plan_model.proofs.SafeWays.{safe_not_bad}
use Rattle.plan_verify.specs.Covers.{AreVerdictsOn, IsRefused, bound_of, greatest_bound}
use Rattle.plan_verify.specs.Lawful.{IsLawful, IsAccepted, IsSafeFor}
use Rattle.plan_verify.specs.declared.verdict.Verdict.{Verdict}
use Rattle.plan_verify.specs.declared.verdict.Verdict.TheVariants.{Accepted, Refused, TooWide}

-- there is a verdict for each cover, on the plan with it alone
pub verdict_on : (plan : Network) (covers : List Cover) (verdicts : List Verdict) (k : ℕ) (d : Cover) (e : Verdict)
    → AreVerdictsOn plan covers verdicts → k < length covers
    → (k < length verdicts) × IsLawful (alone plan (get_or covers k d)) (get_or verdicts k e)
verdict_on plan [] verdicts k d e are lt = absurd (omega (arith, lt))
verdict_on plan (cover ∷ covers) [] k d e are lt = absurd are
verdict_on plan (cover ∷ covers) (verdict ∷ verdicts) zero d e are lt = (omega arith, are.0)
verdict_on plan (cover ∷ covers) (verdict ∷ verdicts) (suc k) d e are lt =
    let r = verdict_on plan covers verdicts k d e are.1 (omega (arith, lt)) in (omega (arith, r.0), r.1)

-- a verdict is on the cover of its place
pub on_cover : (plan : Network) (covers : List Cover) (verdicts : List Verdict) (k : ℕ) (verdict : Verdict)
    → AreVerdictsOn plan covers verdicts → slice_get verdicts k ≡ Some verdict
    → (cover : Cover) × (slice_get covers k ≡ Some cover) × IsLawful (alone plan cover) verdict
on_cover plan [] [] k verdict are at = absurd (cc)
on_cover plan [] (one ∷ verdicts) k verdict are at = absurd are
on_cover plan (cover ∷ covers) [] k verdict are at = absurd are
on_cover plan (cover ∷ covers) (one ∷ verdicts) zero verdict are at =
    let same : one ≡ verdict = cc in (cover, refl, subst (IsLawful (alone plan cover)) same are.0)
on_cover plan (cover ∷ covers) (one ∷ verdicts) (suc k) verdict are at = on_cover plan covers verdicts k verdict are.1 at

pub as_many : (plan : Network) (covers : List Cover) (verdicts : List Verdict) → AreVerdictsOn plan covers verdicts
    → length verdicts ≡ length covers
as_many plan [] [] are = refl
as_many plan [] (verdict ∷ verdicts) are = absurd are
as_many plan (cover ∷ covers) [] are = absurd are
as_many plan (cover ∷ covers) (verdict ∷ verdicts) are = ap suc (as_many plan covers verdicts are.1)

within_greatest : (verdicts : List Verdict) (k : ℕ) (e : Verdict) → k < length verdicts
    → bound_of (get_or verdicts k e) ≤ greatest_bound verdicts
within_greatest [] k e lt = absurd (omega (arith, lt))
within_greatest (verdict ∷ verdicts) zero e lt = omega arith
within_greatest (verdict ∷ verdicts) (suc k) e lt = omega (arith, within_greatest verdicts k e (omega (arith, lt)))

has_greatest : (verdicts : List Verdict) (e : Verdict) → 0 < length verdicts
    → (k : ℕ) × (k < length verdicts) × (bound_of (get_or verdicts k e) ≡ greatest_bound verdicts)
has_greatest [] e some = absurd (omega (arith, some))
has_greatest (verdict ∷ []) e some = (0, omega arith, omega arith)
has_greatest (verdict ∷ next ∷ verdicts) e some =
    let r = has_greatest (next ∷ verdicts) e (omega arith) in
    ⊎_elim
    (λ (higher : bound_of verdict < greatest_bound (next ∷ verdicts)). (suc r.0, omega (arith, r.1), omega (arith, r.2, higher)))
    (λ (lower : greatest_bound (next ∷ verdicts) ≤ bound_of verdict). (0, omega arith, omega (arith, lower)))
    (cases_lt (bound_of verdict) (greatest_bound (next ∷ verdicts)))

safe_of : (plan : Network) (verdict : Verdict) → IsLawful plan verdict → IsAccepted verdict → IsSafeFor plan (bound_of verdict)
safe_of plan (Accepted accepted) lawful is = lawful.0
safe_of plan (Refused same witness) lawful is = absurd is
safe_of plan (TooWide same) lawful is = absurd is

-- a covered title has a route of so many hops
abbrev HasRouteOf : Network → ℕ → Type 0
HasRouteOf plan bound = (spot : Spot) × (markings : List (List Mark)) × Tight plan bound spot markings

route_of : (plan : Network) (verdict : Verdict) → IsLawful plan verdict → IsAccepted verdict → HasRouteOf plan (bound_of verdict)
route_of plan (Accepted accepted) lawful is = (accepted.longest.spot, accepted.longest.markings, lawful.1)
route_of plan (Refused same witness) lawful is = absurd is
route_of plan (TooWide same) lawful is = absurd is

all_safe : (plan : Network) (verdicts : List Verdict) (e : Verdict) → AreVerdictsOn plan plan.covers verdicts → All IsAccepted verdicts
    → Safe plan (greatest_bound verdicts)
all_safe plan verdicts e are accepted =
    (safe_by_covers plan (greatest_bound verdicts)).1 (λ k d lt.
    let on = verdict_on plan plan.covers verdicts k d e are lt in
    safe_for_more (alone plan (get_or plan.covers k d)) (bound_of (get_or verdicts k e)) (greatest_bound verdicts)
    (safe_of (alone plan (get_or plan.covers k d)) (get_or verdicts k e) on.1 (accepted k e on.0)).safe
    (within_greatest verdicts k e on.0))

-- a place at which both lists have something
first_of : (plan : Network) (covers : List Cover) (verdicts : List Verdict) → AreVerdictsOn plan covers verdicts → 0 < length covers
    → Cover × Verdict
first_of plan [] verdicts are some = absurd (omega (arith, some))
first_of plan (cover ∷ covers) [] are some = absurd are
first_of plan (cover ∷ covers) (verdict ∷ verdicts) are some = (cover, verdict)

pub accepted_by_covers : (plan : Network) (verdicts : List Verdict) → AreVerdictsOn plan plan.covers verdicts → 0 < length plan.covers
    → All IsAccepted verdicts
    → IsSafeFor plan (greatest_bound verdicts)
    × ((spot : Spot) × (markings : List (List Mark)) × Tight plan (greatest_bound verdicts) spot markings)
accepted_by_covers plan verdicts are some accepted =
    let any = first_of plan plan.covers verdicts are some in
    let many : length verdicts ≡ length plan.covers = as_many plan plan.covers verdicts are in
    let best = has_greatest verdicts any.1 (omega (arith, some, many)) in
    let cover : Cover = get_or plan.covers best.0 any.0 in
    let verdict : Verdict = get_or verdicts best.0 any.1 in
    let inside : best.0 < length plan.covers = omega (arith, many, best.1) in
    let on = verdict_on plan plan.covers verdicts best.0 any.0 any.1 are inside in
    let own = safe_of (alone plan cover) verdict on.1 (accepted best.0 any.1 on.0) in
    let way : HasRouteOf (alone plan cover) (greatest_bound verdicts) =
    subst (HasRouteOf (alone plan cover)) best.2 (route_of (alone plan cover) verdict on.1 (accepted best.0 any.1 on.0)) in (
      record {
        some = omega (arith, own.some, best.2);
        few = omega (arith, own.few, best.2);
        safe = all_safe plan verdicts any.1 are accepted;
      },
      (
        way.0,
        way.1,
        tight_by_covers plan best.0 cover (greatest_bound verdicts) way.0 way.1 (slice_get-get_or plan.covers best.0 any.0 inside) way.2,
      ),
    )

refused_alone : (plan : Network) (verdict : Verdict) (bound : ℕ) → IsLawful plan verdict → IsRefused verdict → bound ≤ 14
    → Safe plan bound → ⊥
refused_alone plan (Accepted accepted) bound lawful is few safe = absurd is
refused_alone plan (Refused same w) bound lawful is few safe =
    safe_not_bad plan bound w.cover w.spot w.markings w.hops w.kind few safe lawful.bad
refused_alone plan (TooWide same) bound lawful is few safe = absurd is

pub refused_by_covers : (plan : Network) (verdicts : List Verdict) → AreVerdictsOn plan plan.covers verdicts → Any IsRefused verdicts
    → (bound : ℕ) → bound ≤ 14 → Safe plan bound → ⊥
refused_by_covers plan verdicts are refused bound few safe =
    let at : slice_get verdicts refused.0 ≡ Some refused.1 =
    slice_get_read verdicts (length verdicts) refused.0 refused.1 refl refused.2 (sym refused.3) in
    let on = on_cover plan plan.covers verdicts refused.0 refused.1 are at in
    let inside : refused.0 < length plan.covers = slice_get_within plan.covers refused.0 on.0 on.1 in
    refused_alone (alone plan on.0) refused.1 bound on.2 refused.4 few
    (subst (λ cover. Safe (alone plan cover) bound) (get_or_from_slice_get plan.covers refused.0 on.0 on.0 on.1)
    ((safe_by_covers plan bound).0 safe refused.0 on.0 inside))
