-- how the titles of a safe plan end
use Rattle.std.specs.Prelude.{ℕ, ◌≡◌, ◌⊎◌, ◌≤◌, List, [], ◌∷◌, length, take, replicate, Option, Some, None, IsSomeAnd, slice_get, refl}
use Rattle.std.specs.List.{Contains}
use Rattle.std.proofs.Common.{zero, suc, sym, subst, inl, inr, arith, length-take-le}
use Rattle.sccp_base.specs.declared.mark.Mark.{Mark}
use Rattle.sccp_base.proofs.Among.{All-among, Among-slice_get}
use Rattle.plan_model.specs.declared.cover.Cover.{Cover}
use Rattle.plan_model.specs.declared.spot.Spot.{Spot}
use Rattle.plan_model.specs.declared.hop.Step.{Step}
use Rattle.plan_model.specs.declared.hop.Step.TheVariants.{Sent, Ended, Blocked, NoRow, Overgrown}
use Rattle.plan_model.specs.Network.{Network}
use Rattle.plan_model.specs.Covered.{Covers, IsAllowed}
use Rattle.plan_model.specs.Next.{next_of}
use Rattle.plan_model.specs.Steps.{step}
use Rattle.plan_model.specs.Routes.{route_by, onward}
use Rattle.plan_model.specs.Verdicts.{last, MayEnd, Safe, HasSpot}
use Rattle.plan_model.proofs.Alone.{safe_for_more}
use Rattle.plan_model.proofs.Cutting.{hop_of}
use Rattle.plan_model.proofs.SafeWays.{covered_by}
use Rattle.plan_model.proofs.Ways.{MayEnd-sent}
use Rattle.plan_check.specs.Ranked.{Allows}
use Rattle.plan_check.proofs.Soundness.{some_of}
use Rattle.plan_margin.specs.Outages.{Arrives, IsBlocked, IsEndAllowed, route_in}

-- a route that has ended well under the first turns has no more hops than these
ends_short : {T : Type 0} (does : T → Spot → Step) (allowed : ℕ → ℕ → Type 0) (s : Spot) (ms : List T) (n : ℕ)
    → IsSomeAnd (last (route_by does s (take n ms))) (MayEnd allowed) → length (route_by does s ms) ≤ n
ends_short does allowed s ms zero h = absurd h
ends_short does allowed s [] (suc n) h = omega arith
ends_short does allowed s (m ∷ []) (suc n) h =
    elim (next_of (does m s)) as (λ o. length (hop_of does s m ∷ onward o (λ next. [])) ≤ suc n)
    [ None ↦ omega arith | Some u ↦ omega arith ]
ends_short does allowed s (m ∷ k ∷ ks) (suc zero) h =
    elim (next_of (does m s)) as (λ o. next_of (does m s) ≡ o
    → IsSomeAnd (last (hop_of does s m ∷ onward o (λ next. []))) (MayEnd allowed)
    → length (hop_of does s m ∷ onward o (λ next. route_by does next (k ∷ ks))) ≤ suc zero) [
      | None ↦ λ e g. omega arith
      | Some u ↦ λ e g. absurd (MayEnd-sent allowed (does m s) u e g)
    ] refl h
ends_short does allowed s (m ∷ k ∷ ks) (suc (suc n)) h =
    elim (next_of (does m s)) as (λ o. IsSomeAnd (last (hop_of does s m
    ∷ onward o (λ next. route_by does next (k ∷ take n ks)))) (MayEnd allowed)
    → length (hop_of does s m ∷ onward o (λ next. route_by does next (k ∷ ks))) ≤ suc (suc n)) [
      | None ↦ λ g. omega arith
      | Some u ↦ λ g. let few : length (route_by does u (k ∷ ks)) ≤ suc n = ends_short does allowed u (k ∷ ks) (suc n) g in omega
          (arith, few)
    ] h

pub few_hops : (plan : Network) (bound number : ℕ) (spot : Spot) (marks : List Mark) → Safe plan bound → bound ≤ 14
    → HasSpot plan number spot → length (route_in plan marks spot) ≤ bound
few_hops plan bound number spot marks safe le has =
    let size : length (replicate 14 marks) ≡ 14 = refl in
    ends_short (λ m z. step plan z m) (IsAllowed plan spot) spot (replicate 14 marks) bound
    (safe spot (take bound (replicate 14 marks)) (covered_by plan number spot has)
    (length-take-le bound (replicate 14 marks) (omega (arith, le, size))))

-- a place that every cover of a title allows is allowed by this one
allowed_here : (plan : Network) (number : ℕ) (spot : Spot) (pc ssn : ℕ) → HasSpot plan number spot → IsAllowed plan spot pc ssn
    → Allows plan number pc ssn
allowed_here plan number spot pc ssn has all =
    let c = some_of (slice_get plan.covers number) (λ x. Covers x spot) has in
    subst (λ (o : Option Cover). IsSomeAnd o (λ x. Contains x.allowed (pc, ssn))) (sym c.1)
    (All-among (λ (x : Cover). Covers x spot → Contains x.allowed (pc, ssn)) c.0 plan.covers all
    (Among-slice_get plan.covers number c.0 c.1) c.2)

pub arrives_or_blocked : (plan : Network) (bound number : ℕ) (spot : Spot) (marks : List Mark) → Safe plan bound → bound ≤ 14
    → HasSpot plan number spot → Arrives plan number marks spot ⊎ IsSomeAnd (last (route_in plan marks spot)) IsBlocked
arrives_or_blocked plan bound number spot marks safe le has =
    let end = some_of (last (route_in plan marks spot)) (MayEnd (IsAllowed plan spot))
    (safe_for_more plan bound 14 safe le spot (replicate 14 marks) (covered_by plan number spot has) refl) in
    by_step end.0 end.1 end.2
  where
    by_step : (x : Step) → last (route_in plan marks spot) ≡ Some x → MayEnd (IsAllowed plan spot) x
        → Arrives plan number marks spot ⊎ IsSomeAnd (last (route_in plan marks spot)) IsBlocked
    by_step (Sent next target) e h = absurd h
    by_step (Ended pc ssn target) e h = inl (record {
      ends = subst (λ (o : Option Step). IsSomeAnd o (IsEndAllowed plan number)) (sym e) (allowed_here plan number spot pc ssn has h);
    })
    by_step (Blocked cause shut) e h = inr (subst (λ (o : Option Step). IsSomeAnd o IsBlocked) (sym e) tt)
    by_step (NoRow cause) e h = absurd h
    by_step Overgrown e h = absurd h
