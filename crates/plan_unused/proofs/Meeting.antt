-- the titles of the classes that are met
use Rattle.std.specs.Prelude.{ℕ, ◌≡◌, ◌+◌, ◌<◌, ◌≤◌, List, [], ◌∷◌, ◌++◌, length, get_or, Some, slice_get, refl}
use Rattle.std.specs.List.{Contains}
use Rattle.std.proofs.Common.{sym, ◌∙◌, ap, subst, arith, length-append}
use Rattle.std.proofs.lemmas.List.Elements.{All-contains}
use Rattle.sccp_base.specs.declared.mark.Mark.{Mark}
use Rattle.plan_model.specs.declared.cover.Cover.{Cover}
use Rattle.plan_model.specs.declared.spot.Spot.{Spot}
use Rattle.plan_model.specs.declared.hop.Step.TheVariants.{Sent}
use Rattle.plan_model.specs.Network.{Network, IsPlan, IsCover}
use Rattle.plan_model.specs.Covered.{Covers}
use Rattle.plan_model.specs.Next.{next_of}
use Rattle.plan_model.specs.Steps.{step}
use Rattle.plan_model.specs.Verdicts.{HasSpot}
use Rattle.plan_model.proofs.Spots.{cover_at}
use Rattle.plan_model.proofs.Ways.{Sends, Sends-append}
use Rattle.plan_classes.specs.Titles.{Titles, IsClass, IsMember, IsPart, HasTitle, spot_of, parts_of}
use Rattle.plan_classes.specs.Classes.{start_of, Decided, IsReached, Reaches, class_targets}
use Rattle.plan_classes.proofs.Parting.{same_spot, splits_parts}
use Rattle.plan_classes.proofs.Deciding.{open_digits}
use Rattle.plan_classes.proofs.Starting.{start_exact}
use Rattle.plan_classes.proofs.Taking.{opens_takes}
use Rattle.plan_check.proofs.Soundness.{some_of}
use Rattle.plan_unused.specs.Met.{IsMet}
use Rattle.plan_unused.specs.Meets.{Meets}
use Rattle.plan_unused.specs.Meets.Meets.{Start, Part, Onward}
use Rattle.plan_unused.proofs.Sending.{does, met_from}
use Rattle.plan_unused.proofs.Fits.{Fits, fits, is_some_and}

pub part_of_class : (plan : Network) (c part : Titles) → IsClass c → (Decided plan c → ⊥) → Contains (parts_of c) part → IsPart c part
part_of_class plan c part class undecided among =
    All-contains (IsPart c) (parts_of c) part (splits_parts c class (open_digits plan c undecided)).each among

-- a class that is met is one, at a node of the plan
abbrev pub IsClassOf : Network → Titles → Type 0
IsClassOf plan c = IsClass c × (c.node < length plan.nodes)

start_class : (plan : Network) (number : ℕ) (cover : Cover) → IsCover plan.nodes cover → IsClassOf plan (start_of number cover)
start_class plan number cover is = (
  record { range = omega (arith, is.range); room = omega (arith, is.room, is.most) },
  is.node,
)

part_class : (plan : Network) (c part : Titles) → IsPart c part → IsClassOf plan c → IsClassOf plan part
part_class plan c part is h = (is.class, subst (λ n. n < length plan.nodes) (sym is.node) h.1)

pub meets_class : (plan : Network) → IsPlan plan → (depth : ℕ) (c : Titles) → Meets plan depth c → IsClassOf plan c
meets_class plan is depth c (Start number cover at) = start_class plan number cover (cover_at plan number cover is at)
meets_class plan is depth c (Part depth' whole part m undecided among) =
    let h = meets_class plan is depth' whole m in
    part_class plan whole part (part_of_class plan whole part h.0 undecided among) h
meets_class plan is depth c (Onward depth' from next place m lt decided reached has) =
    let h = meets_class plan is depth' from m in
    let f = fits plan from place next is h.0 h.1 decided has in
    (f.class, f.node)

pub meets_few : (plan : Network) (depth : ℕ) (c : Titles) → Meets plan depth c → depth ≤ 13
meets_few plan depth c (Start number cover at) = omega arith
meets_few plan depth c (Part depth' whole part m undecided among) = meets_few plan depth' whole m
meets_few plan depth c (Onward depth' from next place m lt decided reached has) = omega (arith, lt)

-- a covered title that is sent to the spot after this number of hops
pub record IsBrought (plan : Network) (number depth : ℕ) (spot : Spot) : Type 0 where
  pub start : Spot
  pub markings : List (List Mark)
  pub covered : HasSpot plan number start
  pub count : length markings ≡ depth
  pub sends : Sends (does plan) start markings spot

brought_start : (plan : Network) (number : ℕ) (cover : Cover) (spot : Spot) → IsCover plan.nodes cover
    → slice_get plan.covers number ≡ Some cover → HasTitle (start_of number cover) spot → IsBrought plan number 0 spot
brought_start plan number cover spot is at has =
    record {
      start = spot;
      markings = [];
      covered = is_some_and (slice_get plan.covers number) (λ c. Covers c spot) cover at
          ((start_exact plan.nodes number cover (start_of number cover) is refl spot).0 has);
      count = refl;
      sends = refl;
    }

part_title : (c part : Titles) (spot : Spot) → IsPart c part → HasTitle part spot → HasTitle c spot
part_title c part spot is h = (h.0, is.inside h.0 h.1, h.2 ∙ same_spot c part h.0 is)

-- a marking under which a title is sent on
opening : (plan : Network) (c next : Titles) (place : ℕ) (spot : Spot) → IsClassOf plan c → Decided plan c → Reaches plan c place
    → Fits plan c place next → HasTitle next spot → (digits : List ℕ) × (marking : List Mark) × IsMember c digits
    × (next_of (step plan (spot_of c digits) marking) ≡ Some spot)
opening plan c next place spot class decided reached f has =
    let back = f.sent.every has.0 has.1 in
    let node = some_of (slice_get plan.nodes c.node) (λ n. IsReached n c.ssn (class_targets plan c) place) reached in
    let takes = opens_takes plan node.0 c place node.2.0 class.0 decided node.1 (node.2.1, node.2.2) back.0 back.1 in
    let e : Some (Sent (spot_of next has.0) place) ≡ Some (step plan (spot_of c back.0) node.2.0) = sym back.2 ∙ takes in
    let same : Sent (spot_of next has.0) place ≡ step plan (spot_of c back.0) node.2.0 = cc in
    (back.0, node.2.0, back.1, sym (ap next_of same) ∙ ap Some (sym has.2))

brought_on : (plan : Network) (number depth : ℕ) (spot from : Spot) (marking : List Mark) → next_of (step plan from marking) ≡ Some spot
    → IsBrought plan number depth from → IsBrought plan number (depth + 1) spot
brought_on plan number depth spot from marking e b =
    record {
      start = b.start;
      markings = b.markings ++ marking ∷ [];
      covered = b.covered;
      count = omega (arith, b.count, length-append b.markings (marking ∷ []));
      sends = Sends-append (does plan) b.start b.markings from (marking ∷ []) spot b.sends (spot, e, refl);
    }

titles_brought : (plan : Network) → IsPlan plan → (depth : ℕ) (c : Titles) → Meets plan depth c → (spot : Spot) → HasTitle c spot
    → IsBrought plan c.cover depth spot
titles_brought plan is depth c (Start number cover at) spot has =
    brought_start plan number cover spot (cover_at plan number cover is at) at has
titles_brought plan is depth c (Part depth' whole part m undecided among) spot has =
    let p = part_of_class plan whole part (meets_class plan is depth' whole m).0 undecided among in
    subst (λ n. IsBrought plan n depth' spot) (sym p.cover) (titles_brought plan is depth' whole m spot (part_title whole part spot p has))
titles_brought plan is depth c (Onward depth' from next place m lt decided reached has') spot has =
    let class = meets_class plan is depth' from m in
    let f = fits plan from place next is class.0 class.1 decided has' in
    let o = opening plan from next place spot class decided reached f has in
    subst (λ n. IsBrought plan n (depth' + 1) spot) (sym f.cover)
    (brought_on plan from.cover depth' spot (spot_of from o.0) o.1 o.3
    (titles_brought plan is depth' from m (spot_of from o.0) (o.0, o.2, refl)))

-- each title of a class that is met gets where the class is within fourteen hops
pub titles_met : (plan : Network) (depth : ℕ) (c : Titles) (spot : Spot) → IsPlan plan → Meets plan depth c → HasTitle c spot
    → IsMet plan c.cover spot
titles_met plan depth c spot is m has =
    let b = titles_brought plan is depth c m spot has in
    met_from plan c.cover b.start b.markings spot b.covered (omega (arith, b.count, meets_few plan depth c m)) b.sends

-- the element of the parts at this place
pub part_at : (c : Titles) (ps qs : List Titles) (i : ℕ) (p : Titles) → ps ≡ parts_of c → qs ≡ ps → i < length qs → p ≡ get_or qs i p
    → Contains (parts_of c) p
part_at c ps qs i p are same lt at =
    (i, omega (arith, ap length (same ∙ are)), sym (at ∙ ap (λ (xs : List Titles). get_or xs i p) (same ∙ are)))
