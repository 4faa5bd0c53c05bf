-- A plan and each of its covers alone: what is safe and what is bad.
use Rattle.std.specs.Prelude.{ℕ, ◌≡◌, ◌<◌, ◌≤◌, ◌↔◌, List, [], ◌∷◌, length, take, Option, Some, None, IsSomeAnd, slice_get, get_or, refl}
use Rattle.std.specs.List.{All, Contains}
use Rattle.std.proofs.Common.{zero, suc, sym, subst, arith, length-take-le}
use Rattle.std.proofs.lemmas.Option.{slice_get-get_or, slice_get_within, get_or_from_slice_get}
use Rattle.sccp_base.specs.declared.mark.Mark.{Mark}
use Rattle.plan_model.specs.declared.cover.Cover.{Cover}
use Rattle.plan_model.specs.declared.spot.Spot.{Spot}
use Rattle.plan_model.specs.declared.hop.Step.{Step}
use Rattle.plan_model.specs.declared.hop.Step.TheVariants.{Sent, Ended, Blocked, NoRow, Overgrown}
use Rattle.plan_model.specs.declared.hop.Hop.{Hop}
use Rattle.plan_model.specs.declared.kind.Kind.{Kind}
use Rattle.plan_model.specs.declared.kind.Kind.TheVariants.{Loop, Long, Forbidden, NoRow as Rowless, Overgrown as Swollen}
use Rattle.plan_model.specs.Network.{Network, IsPlan, IsCover}
use Rattle.plan_model.specs.Alone.{alone}
use Rattle.plan_model.specs.Covered.{Covers, Covered, IsAllowed}
use Rattle.plan_model.specs.Next.{next_of}
use Rattle.plan_model.specs.Steps.{step}
use Rattle.plan_model.specs.Routes.{route_by, onward, route}
use Rattle.plan_model.specs.Verdicts.{last, MayEnd, Safe, Tight, HasSpot, EndsBadly, Bad}
use Rattle.plan_model.proofs.Cutting.{hop_of}
use Rattle.plan_model.proofs.SafeWays.{covered_by}
use Rattle.plan_model.proofs.Ways.{MayEnd-sent}

-- ---- what one cover has and allows

at_one : (cover x : Cover) (spot : Spot) (k : ℕ) → k < 1 → get_or (cover ∷ []) k x ≡ x → Covers x spot → Covers cover spot
at_one cover x spot zero lt is h = subst (λ c. Covers c spot) (sym is) h
at_one cover x spot (suc k) lt is h = absurd (omega (arith, lt))

covers_alone : (plan : Network) (cover : Cover) (spot : Spot) → Covered (alone plan cover) spot → Covers cover spot
covers_alone plan cover spot h = at_one cover h.1 spot h.0 h.2 h.3 h.4

covered_alone : (plan : Network) (cover : Cover) (spot : Spot) → Covers cover spot → Covered (alone plan cover) spot
covered_alone plan cover spot h = (0, cover, omega arith, refl, h)

allows_alone : (plan : Network) (cover : Cover) (spot : Spot) (pc ssn k : ℕ) (d : Cover) → (Covers cover spot
    → Contains cover.allowed (pc, ssn)) → k < 1 → Covers (get_or (cover ∷ []) k d) spot
    → Contains (get_or (cover ∷ []) k d).allowed (pc, ssn)
allows_alone plan cover spot pc ssn zero d allows lt = allows
allows_alone plan cover spot pc ssn (suc k) d allows lt = absurd (omega (arith, lt))

-- ---- safe with each cover, and safe with all

-- a route that ends where all covers allow ends where one allows
ends_alone : (plan : Network) (cover : Cover) (spot : Spot) (o : Option Step)
    → ((pc ssn : ℕ) → IsAllowed plan spot pc ssn → Covers cover spot → Contains cover.allowed (pc, ssn))
    → IsSomeAnd o (MayEnd (IsAllowed plan spot)) → IsSomeAnd o (MayEnd (IsAllowed (alone plan cover) spot))
ends_alone plan cover spot None among h = absurd h
ends_alone plan cover spot (Some (Sent next target)) among h = absurd h
ends_alone plan cover spot (Some (Ended pc ssn target)) among h = λ k d lt. allows_alone plan cover spot pc ssn k d (among pc ssn h) lt
ends_alone plan cover spot (Some (Blocked cause marks)) among h = tt
ends_alone plan cover spot (Some (NoRow cause)) among h = absurd h
ends_alone plan cover spot (Some Overgrown) among h = absurd h

safe_each : (plan : Network) (bound : ℕ) → Safe plan bound → All (λ cover. Safe (alone plan cover) bound) plan.covers
safe_each plan bound safe k d lt spot markings covered count =
    let cover : Cover = get_or plan.covers k d in
    let here : slice_get plan.covers k ≡ Some cover = slice_get-get_or plan.covers k d lt in
    let has : HasSpot plan k spot =
    subst (λ (o : Option Cover). IsSomeAnd o (λ c. Covers c spot)) (sym here) (covers_alone plan cover spot covered) in
    ends_alone plan cover spot (last (route plan spot markings)) (λ pc ssn all. all k d lt)
    (safe spot markings (covered_by plan k spot has) count)

-- a route that ends where each cover of the title allows ends where all allow
ends_all : (plan : Network) (spot : Spot) (o : Option Step)
    → ((k : ℕ) (d : Cover) → k < length plan.covers → Covers (get_or plan.covers k d) spot
    → IsSomeAnd o (MayEnd (IsAllowed (alone plan (get_or plan.covers k d)) spot)))
    → (k : ℕ) (d : Cover) → k < length plan.covers → Covers (get_or plan.covers k d) spot → IsSomeAnd o (MayEnd (IsAllowed plan spot))
ends_all plan spot None each k d lt h = absurd (each k d lt h)
ends_all plan spot (Some (Sent next target)) each k d lt h = absurd (each k d lt h)
ends_all plan spot (Some (Ended pc ssn target)) each k d lt h = λ i e in' covers. each i e in' covers 0 e (omega arith) covers
ends_all plan spot (Some (Blocked cause marks)) each k d lt h = tt
ends_all plan spot (Some (NoRow cause)) each k d lt h = absurd (each k d lt h)
ends_all plan spot (Some Overgrown) each k d lt h = absurd (each k d lt h)

safe_all : (plan : Network) (bound : ℕ) → All (λ cover. Safe (alone plan cover) bound) plan.covers → Safe plan bound
safe_all plan bound each spot markings covered count =
    ends_all plan spot (last (route plan spot markings))
    (λ k d lt h. each k d lt spot markings (covered_alone plan (get_or plan.covers k d) spot h) count) covered.0 covered.1 covered.2
    (subst (λ c. Covers c spot) (sym covered.3) covered.4)

pub safe_by_covers : (plan : Network) (bound : ℕ) → Safe plan bound ↔ All (λ cover. Safe (alone plan cover) bound) plan.covers
safe_by_covers plan bound = (safe_each plan bound, safe_all plan bound)

-- ---- safe for more hops

-- a route that has ended well under the first turns ends so under all of them
ends_later : {T : Type 0} (does : T → Spot → Step) (allowed : ℕ → ℕ → Type 0) (s : Spot) (ms : List T) (n : ℕ)
    → IsSomeAnd (last (route_by does s (take n ms))) (MayEnd allowed) → IsSomeAnd (last (route_by does s ms)) (MayEnd allowed)
ends_later does allowed s ms zero h = absurd h
ends_later does allowed s [] (suc n) h = absurd h
ends_later does allowed s (m ∷ []) (suc zero) h = h
ends_later does allowed s (m ∷ []) (suc (suc n)) h = h
ends_later does allowed s (m ∷ k ∷ ks) (suc zero) h =
    elim (next_of (does m s)) as (λ o. next_of (does m s) ≡ o
    → IsSomeAnd (last (hop_of does s m ∷ onward o (λ next. []))) (MayEnd allowed)
    → IsSomeAnd (last (hop_of does s m ∷ onward o (λ next. route_by does next (k ∷ ks)))) (MayEnd allowed)) [
      | None ↦ λ e g. g
      | Some u ↦ λ e g. absurd (MayEnd-sent allowed (does m s) u e g)
    ] refl h
ends_later does allowed s (m ∷ k ∷ ks) (suc (suc n)) h =
    elim (next_of (does m s)) as (λ o. IsSomeAnd (last (hop_of does s m
    ∷ onward o (λ next. route_by does next (k ∷ take n ks)))) (MayEnd allowed)
    → IsSomeAnd (last (hop_of does s m ∷ onward o (λ next. route_by does next (k ∷ ks)))) (MayEnd allowed)) [
      | None ↦ λ g. g
      | Some u ↦ λ g. ends_later does allowed u (k ∷ ks) (suc n) g
    ] h

pub safe_for_more : (plan : Network) (bound more : ℕ) → Safe plan bound → bound ≤ more → Safe plan more
safe_for_more plan bound more safe le spot markings covered count =
    ends_later (λ m z. step plan z m) (IsAllowed plan spot) spot markings bound
    (safe spot (take bound markings) covered (length-take-le bound markings (omega (arith, le, count))))

-- ---- bad routes and longest ones

ends_badly : (plan : Network) (number : ℕ) (cover : Cover) (hops : List Hop) (kind : Kind) → slice_get plan.covers number ≡ Some cover
    → EndsBadly plan number hops kind ↔ EndsBadly (alone plan cover) 0 hops kind
ends_badly plan number cover hops (Loop from) at = (λ h. h, λ h. h)
ends_badly plan number cover hops Long at = (λ h. h, λ h. h)
ends_badly plan number cover hops (Forbidden pc ssn) at = (
  λ h. (h.0, h.1, subst (λ (o : Option Cover). IsSomeAnd o (λ c. Contains c.allowed (pc, ssn) → ⊥)) at h.2),
  λ h. (h.0, h.1, subst (λ (o : Option Cover). IsSomeAnd o (λ c. Contains c.allowed (pc, ssn) → ⊥)) (sym at) h.2),
)
ends_badly plan number cover hops (Rowless cause) at = (λ h. h, λ h. h)
ends_badly plan number cover hops Swollen at = (λ h. h, λ h. h)

has_spot : (plan : Network) (number : ℕ) (cover : Cover) (s : Spot) → slice_get plan.covers number ≡ Some cover → Covers cover s
    → HasSpot plan number s
has_spot plan number cover s at h = subst (λ (o : Option Cover). IsSomeAnd o (λ c. Covers c s)) (sym at) h

pub bad_by_covers : (plan : Network) (number : ℕ) (cover : Cover) (s : Spot) (ms : List (List Mark)) (hops : List Hop) (kind : Kind)
    → slice_get plan.covers number ≡ Some cover → Bad plan number s ms hops kind ↔ Bad (alone plan cover) 0 s ms hops kind
bad_by_covers plan number cover s ms hops kind at = (
  λ bad. record {
    covered = subst (λ (o : Option Cover). IsSomeAnd o (λ c. Covers c s)) at bad.covered;
    is_route = bad.is_route;
    each = bad.each;
    some = bad.some;
    few = bad.few;
    ends = (ends_badly plan number cover hops kind at).0 bad.ends;
  },
  λ bad. record {
    covered = has_spot plan number cover s at bad.covered;
    is_route = bad.is_route;
    each = bad.each;
    some = bad.some;
    few = bad.few;
    ends = (ends_badly plan number cover hops kind at).1 bad.ends;
  },
)

pub tight_by_covers : (plan : Network) (number : ℕ) (cover : Cover) (bound : ℕ) (s : Spot) (ms : List (List Mark))
    → slice_get plan.covers number ≡ Some cover → Tight (alone plan cover) bound s ms → Tight plan bound s ms
tight_by_covers plan number cover bound s ms at tight = record {
  covered = covered_by plan number s (has_spot plan number cover s at (covers_alone plan cover s tight.covered));
  count = tight.count;
  hops = tight.hops;
}

-- ---- each cover of a plan makes a plan

one_sound : (plan : Network) (cover : Cover) (k : ℕ) (d : Cover) → IsCover plan.nodes cover → k < 1
    → IsCover plan.nodes (get_or (cover ∷ []) k d)
one_sound plan cover zero d sound lt = sound
one_sound plan cover (suc k) d sound lt = absurd (omega (arith, lt))

pub alone_sound : (plan : Network) (number : ℕ) (cover : Cover) → IsPlan plan → slice_get plan.covers number ≡ Some cover
    → IsPlan (alone plan cover)
alone_sound plan number cover sound at =
    let inside : number < length plan.covers = slice_get_within plan.covers number cover at in
    let own : IsCover plan.nodes cover =
    subst (IsCover plan.nodes) (get_or_from_slice_get plan.covers number cover cover at) (sound.sound_covers number cover inside) in
    record {
      few_nodes = sound.few_nodes;
      few_rows = sound.few_rows;
      few_covers = omega (arith, inside, sound.few_covers);
      node_places = sound.node_places;
      cover_places = omega arith;
      row_places = sound.row_places;
      some_cover = omega arith;
      nodes = sound.nodes;
      names = sound.names;
      points = sound.points;
      tables = sound.tables;
      relays = sound.relays;
      sound_covers = λ k d lt. one_sound plan cover k d own lt;
    }
