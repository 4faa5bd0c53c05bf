-- titles with bad or long routes, and how they are carried back
use Rattle.std.specs.Prelude.{ℕ, ◌≡◌, ◌+◌, ◌<◌, ◌⊎◌, List, [], ◌∷◌, length, Option, Some, None, IsSomeAnd, slice_get}
use Rattle.std.specs.Prelude.{refl, if◌then◌else◌}
use Rattle.std.specs.List.{list_any}
use Rattle.std.specs.Option.{option_and_then}
use Rattle.std.proofs.Common.{sym, ◌∙◌, ap, subst, inl, inr, ⊎_elim, arith}
use Rattle.std.proofs.lemmas.Option.{slice_get_within, get_or_from_slice_get}
use Rattle.sccp_base.specs.declared.mark.Mark.{Mark}
use Rattle.plan_rules.specs.Rows.{has_selector}
use Rattle.plan_model.specs.declared.cover.Cover.{Cover}
use Rattle.plan_model.specs.declared.spot.Spot.{Spot}
use Rattle.plan_model.specs.declared.hop.Step.TheVariants.{Sent, NoRow}
use Rattle.plan_model.specs.declared.hop.Hop.{Hop}
use Rattle.plan_model.specs.Network.{Network, IsPlan}
use Rattle.plan_model.specs.Next.{next_of}
use Rattle.plan_model.specs.RowFor.{row_for, row_of}
use Rattle.plan_model.specs.Steps.{step, step_at, step_by}
use Rattle.plan_model.specs.Routes.{route, onward}
use Rattle.plan_model.specs.Covered.{Covers, Covered}
use Rattle.plan_model.specs.Verdicts.{last, HasSpot}
use Rattle.plan_model.proofs.Ways.{hop_at, last-onward}
use Rattle.plan_model.proofs.Spots.{cover_at}
use Rattle.plan_classes.specs.declared.leads.Image.TheVariants.{Next}
use Rattle.plan_classes.specs.Titles.{Titles, IsMember, IsPart, spot_of}
use Rattle.plan_classes.specs.Classes.{start_of, sample_of, class_row, HasImage}
use Rattle.plan_classes.specs.Leading.{brought, Takes}
use Rattle.plan_classes.proofs.Starting.{member_covered}
use Rattle.plan_verify.specs.declared.trace.Trace.{Trace}
use Rattle.plan_verify.specs.Ends.{IsBadEnd, IsBadRoute}
use Rattle.plan_verify.specs.Traces.{IsTrace, IsWay, GoesBefore}

one_route : (plan : Network) (s : Spot) (m : List Mark) → route plan s (m ∷ []) ≡ hop_at plan s m ∷ []
one_route plan s m = elim (next_of (step plan s m)) as (λ o. (hop_at plan s m ∷ onward o (λ next. [])) ≡ hop_at plan s m ∷ [])
    [ None ↦ refl | Some u ↦ refl ]

one_bad : (plan : Network) (cover depth : ℕ) (s : Spot) (m : List Mark) → depth < 15
    → IsBadEnd plan cover (step plan s m) ⊎ (depth + 1 ≡ 15) → IsBadRoute plan cover depth s (m ∷ [])
one_bad plan cover depth s m lt ends =
    record {
      each = ap length (one_route plan s m);
      some = omega arith;
      few = omega arith;
      ends = ⊎_elim
          (λ (bad : IsBadEnd plan cover (step plan s m)). inl
          (subst (λ (hs : List Hop). IsSomeAnd (last hs) (IsBadEnd plan cover)) (sym (one_route plan s m)) bad))
          (λ (long : depth + 1 ≡ 15). inr (omega arith))
          ends;
    }

-- a title whose first hop is bad or the fifteenth
pub trace_one : (plan : Network) (c : Titles) (depth : ℕ) (t : Trace) (digits : List ℕ) (m : List Mark) → t.digits ≡ digits
    → t.markings ≡ m ∷ [] → IsMember c digits → depth < 15 → IsBadEnd plan c.cover (step plan (spot_of c digits) m) ⊎ (depth + 1 ≡ 15)
    → IsTrace plan c depth t
trace_one plan c depth t digits m these under member lt ends =
    record {
      member = subst (IsMember c) (sym these) member;
      bad =
          subst (λ (ms : List (List Mark)). IsBadRoute plan c.cover depth (spot_of c t.digits) ms) (sym under)
          (subst (λ (ds : List ℕ). IsBadRoute plan c.cover depth (spot_of c ds) (m ∷ [])) (sym these)
          (one_bad plan c.cover depth (spot_of c digits) m lt ends));
    }

-- any title has a first hop
pub way_one : (plan : Network) (c : Titles) (t : Trace) (digits : List ℕ) (m : List Mark) → t.digits ≡ digits → t.markings ≡ m ∷ []
    → IsMember c digits → IsWay plan c 1 t
way_one plan c t digits m these under member =
    record {
      member = subst (IsMember c) (sym these) member;
      count = ap length under;
      each = ap (λ (ms : List (List Mark)). length (route plan (spot_of c t.digits) ms)) under
          ∙ ap length (one_route plan (spot_of c t.digits) m);
    }

pub fifteenth : (plan : Network) (c : Titles) (depth : ℕ) (t : Trace) → IsMember c t.digits → t.markings ≡ [] ∷ [] → depth ≡ 14
    → IsTrace plan c depth t
fifteenth plan c depth t member under deep = trace_one plan c depth t t.digits [] refl under member (omega arith) (inr (omega arith))

-- without a row a title cannot go on
no_row_step : (plan : Network) (s : Spot) (m : List Mark) → row_of plan s ≡ None → (cause : ℕ) × (step plan s m ≡ NoRow cause)
no_row_step plan s m e =
    elim (slice_get plan.nodes s.node) as (λ o. option_and_then (λ node. row_for node s) o ≡ None
    → (cause : ℕ) × (step_at plan s m o ≡ NoRow cause)) [
      | None ↦ λ f. (0, refl)
      | Some node ↦ λ f. ((if list_any (has_selector s.selector) node.table then 1 else 0), ap (step_by plan node s m) f)
    ] e

pub without_row : (plan : Network) (c : Titles) (depth : ℕ) (t : Trace) → IsMember c t.digits → t.digits ≡ sample_of c
    → t.markings ≡ [] ∷ [] → depth < 14 → class_row plan c ≡ None → IsTrace plan c depth t
without_row plan c depth t member least under lt none =
    let e = no_row_step plan (spot_of c (sample_of c)) [] none in
    trace_one plan c depth t (sample_of c) [] least under (subst (IsMember c) least member) (omega arith)
    (inl (subst (IsBadEnd plan c.cover) (sym e.1) tt))

-- the title in front is sent on as the one that follows
pub sent_before : (plan : Network) (c : Titles) (place : ℕ) (behind t : Trace) (m : List Mark) → IsMember c t.digits
    → t.markings ≡ m ∷ behind.markings → Takes plan c place m
    → ((next : Titles) → HasImage plan c place (Next next) → brought plan c place t.digits ≡ Some (Sent (spot_of next behind.digits) place))
    → GoesBefore plan c place behind t
sent_before plan c place behind t m member front takes leads =
    record {
      member = member;
      more = ap length front ∙ (let e : length (m ∷ behind.markings) ≡ length behind.markings + 1 = omega arith in e);
      follows = λ next has.
          let taken : Some (step plan (spot_of c t.digits) m) ≡ Some (Sent (spot_of next behind.digits) place) = sym (takes t.digits member)
          ∙ leads next has in
          let is : step plan (spot_of c t.digits) m ≡ Sent (spot_of next behind.digits) place = cc in (
            hop_at plan (spot_of c t.digits) m,
            ap (route plan (spot_of c t.digits)) front ∙ ap (λ (o : Option Spot). hop_at plan (spot_of c t.digits) m
                ∷ onward o (λ u. route plan u behind.markings)) (ap next_of is),
          );
    }

-- a bad route after a hop makes a bad route
pub trace_before : (plan : Network) (c next : Titles) (place depth : ℕ) (behind t : Trace) → HasImage plan c place (Next next)
    → next.cover ≡ c.cover → IsTrace plan next (depth + 1) behind → GoesBefore plan c place behind t → IsTrace plan c depth t
trace_before plan c next place depth behind t has cover trace before =
    record {
      member = before.member;
      bad = record {
        each = omega (arith, ap length follows.1, trace.bad.each, before.more);
        some = omega (arith, before.more);
        few = omega (arith, before.more, trace.bad.few);
        ends = ⊎_elim
            (λ (bad : IsSomeAnd (last rest) (IsBadEnd plan next.cover)).
            inl (subst (λ (hs : List Hop). IsSomeAnd (last hs) (IsBadEnd plan c.cover)) (sym follows.1)
            (last-onward follows.0 rest (IsBadEnd plan c.cover)
            (subst (λ (n : ℕ). IsSomeAnd (last rest) (IsBadEnd plan n)) cover bad))))
            (λ (long : depth + 1 + length behind.markings ≡ 15). inr (omega (arith, before.more)))
            trace.bad.ends;
      };
    }
  where
    rest : List Hop
    rest = route plan (spot_of next behind.digits) behind.markings

    follows : (hop : Hop) × (route plan (spot_of c t.digits) t.markings ≡ hop ∷ route plan (spot_of next behind.digits) behind.markings)
    follows = before.follows next has

-- a part's titles are the class's
pub trace_of_part : (plan : Network) (c part : Titles) (depth : ℕ) (t : Trace) → IsPart c part → IsTrace plan part depth t
    → IsTrace plan c depth t
trace_of_part plan c part depth t is trace =
    record {
      member = is.inside t.digits trace.member;
      bad =
          subst (λ (n : ℕ). IsBadRoute plan n depth (spot_of c t.digits) t.markings) is.cover
          (subst (λ (s : Spot). IsBadRoute plan part.cover depth s t.markings) (part_spot c part t.digits is) trace.bad);
    }
  where
    part_spot : (c part : Titles) (digits : List ℕ) → IsPart c part → spot_of part digits ≡ spot_of c digits
    part_spot c part digits is = λ i. record { node = is.node i; selector = is.selector i; ssn = is.ssn i; digits = digits }

-- a spot of a cover's start is one that the cover has
pub start_has : (plan : Network) (number : ℕ) (cover : Cover) (digits : List ℕ) → IsPlan plan → slice_get plan.covers number ≡ Some cover
    → IsMember (start_of number cover) digits → HasSpot plan number (spot_of (start_of number cover) digits)
start_has plan number cover digits is at m =
    subst (λ (o : Option Cover). IsSomeAnd o (λ c. Covers c (spot_of (start_of number cover) digits))) (sym at)
    (member_covered plan.nodes number cover digits (cover_at plan number cover is at) m)

pub start_covered : (plan : Network) (number : ℕ) (cover : Cover) (digits : List ℕ) → IsPlan plan
    → slice_get plan.covers number ≡ Some cover → IsMember (start_of number cover) digits
    → Covered plan (spot_of (start_of number cover) digits)
start_covered plan number cover digits is at m = (
  number,
  cover,
  slice_get_within plan.covers number cover at,
  get_or_from_slice_get plan.covers number cover cover at,
  member_covered plan.nodes number cover digits (cover_at plan number cover is at) m,
)

pub start_node : (plan : Network) (number : ℕ) (cover : Cover) → IsPlan plan → slice_get plan.covers number ≡ Some cover
    → cover.node < length plan.nodes
start_node plan number cover is at = (cover_at plan number cover is at).node
