-- the outages of a cover, and what the search from its start says of them
use Rattle.std.specs.Prelude.{ℕ, ◌≡◌, ◌+◌, ◌<◌, ◌≤◌, true, false, Bool, List, [], length, Option, Some, None, IsSomeAnd, slice_get, refl}
use Rattle.std.specs.Prelude.{replicate}
use Rattle.std.specs.Option.{option_map_or}
use Rattle.std.proofs.Common.{sym, ◌∙◌, ap, subst, ⊎_elim, arith}
use Rattle.std.proofs.lemmas.Bool.{false≢true, cases_lt}
use Rattle.std.proofs.lemmas.Option.{slice_get_cases}
use Rattle.sccp_base.specs.declared.mark.Mark.{Mark}
use Rattle.sccp_base.specs.declared.mark.Mark.TheVariants.{PointCode}
use Rattle.sccp_base.specs.Marks.{IsAscending, same_mark, holds}
use Rattle.sccp_base.proofs.MarkPlaces.{same_mark_is}
use Rattle.plan_model.specs.declared.node.Node.{Node}
use Rattle.plan_model.specs.declared.cover.Cover.{Cover}
use Rattle.plan_model.specs.declared.spot.Spot.{Spot}
use Rattle.plan_model.specs.Network.{Network, IsPlan, point_of}
use Rattle.plan_model.specs.Covered.{Covers}
use Rattle.plan_model.specs.Verdicts.{HasSpot}
use Rattle.plan_model.proofs.Spots.{cover_at}
use Rattle.plan_classes.specs.Titles.{Titles, IsMember, spot_of}
use Rattle.plan_classes.specs.Classes.{start_of}
use Rattle.plan_classes.proofs.Starting.{start_member, start_spot, member_covered}
use Rattle.plan_classes.proofs.Openings.{own_mark}
use Rattle.plan_check.proofs.Soundness.{some_of}
use Rattle.plan_margin.specs.declared.loss_kinds.LossKinds.{LossKinds}
use Rattle.plan_margin.specs.declared.outage_set.OutageSet.{OutageSet}
use Rattle.plan_margin.specs.declared.stop.Stop.{Stop}
use Rattle.plan_margin.specs.declared.found.Found.{Found}
use Rattle.plan_margin.specs.Outages.{Outage, SparesEntry, ArrivesWithin, Arrives, SurvivesBelow, SurvivesAll, route_in}
use Rattle.plan_margin.specs.Margins.{IsStop}
use Rattle.plan_margin.specs.Searching.{IsIn, IsFoundIf, IsFound, Spares, AllArrive, StopsOne}
use Rattle.plan_margin.proofs.Counting.{once_from}
use Rattle.plan_margin.proofs.Following.{found_same}

-- the set in which nothing is lost and this node is not
pub spared_found : (plan : Network) (c : Titles) (left node : ℕ) (set : OutageSet) (found : Found) → set.lost ≡ []
    → ((m : Mark) → holds set.up m ≡ same_mark (PointCode (point_of plan node)) m) → IsFound plan c left set found
    → IsFoundIf plan c left set.most (Spares plan set.kinds node) found
spared_found plan c left node set found none up h =
    found_same plan c left set.most (IsIn plan set) (Spares plan set.kinds node) found
    (λ marks i. record {
      losses = i.losses;
      spared = i.up (PointCode (point_of plan node)) (up (PointCode (point_of plan node)) ∙ own_mark (PointCode (point_of plan node)));
    })
    (λ marks s. record {
      losses = s.losses;
      lost = λ m k. absurd (false≢true (sym (ap (λ (ms : List Mark). holds ms m) none) ∙ k));
      up = λ m k. subst (λ (x : Mark). holds marks x ≡ false) (same_mark_is (PointCode (point_of plan node)) m (sym (up m) ∙ k)) s.spared;
    }) h

-- marks that spare the entry of a cover are those that do not hold its relay's point
entry_spared : (plan : Network) (number : ℕ) (cover : Cover) (marks : List Mark) → slice_get plan.covers number ≡ Some cover
    → SparesEntry plan number marks → holds marks (PointCode (point_of plan cover.node)) ≡ false
entry_spared plan number cover marks at spares =
    let n = some_of (slice_get plan.nodes cover.node) (λ node. holds marks (PointCode node.pc) ≡ false)
    (subst (λ (o : Option Cover). IsSomeAnd o (λ c. IsSomeAnd (slice_get plan.nodes c.node) (λ node. holds marks (PointCode node.pc)
    ≡ false)))
    at spares) in
    ap (λ (o : Option Node). holds marks (PointCode (option_map_or (λ x. x.pc) o 0))) n.1 ∙ n.2

spares_entry : (plan : Network) (number : ℕ) (cover : Cover) (marks : List Mark) → IsPlan plan → slice_get plan.covers number ≡ Some cover
    → holds marks (PointCode (point_of plan cover.node)) ≡ false → SparesEntry plan number marks
spares_entry plan number cover marks is at spared =
    subst (λ (o : Option Cover). IsSomeAnd o (λ c. IsSomeAnd (slice_get plan.nodes c.node) (λ node. holds marks (PointCode node.pc)
    ≡ false)))
    (sym at)
    (elim (slice_get plan.nodes cover.node) as (λ o. slice_get plan.nodes cover.node ≡ o
    → holds marks (PointCode (option_map_or (λ (x : Node). x.pc) o 0)) ≡ false
    → IsSomeAnd o (λ node. holds marks (PointCode node.pc) ≡ false)) [
      | None ↦ λ e h. absurd (none_there e)
      | Some node ↦ λ e h. h
    ] refl spared)
  where
    none_there : slice_get plan.nodes cover.node ≡ None → ⊥
    none_there e = ⊎_elim
        (λ (there : (x : Node) × (cover.node < length plan.nodes) × (slice_get plan.nodes cover.node ≡ Some x) × (_ ≡ x)).
        let w : None ≡ Some there.0 = sym e ∙ there.2 in cc)
        (λ (past : (length plan.nodes ≤ cover.node) × (slice_get plan.nodes cover.node ≡ None)).
        omega (arith, past.0, (cover_at plan number cover is at).node))
        (slice_get_cases plan.nodes cover.node).1

-- a title of the cover arrives, if all of the start do
arrives_from : (plan : Network) (kinds : LossKinds) (number most : ℕ) (cover : Cover) (c : Titles) (cut : Bool) (spot : Spot)
    (marks : List Mark)
    → slice_get plan.covers number ≡ Some cover → c ≡ start_of number cover → AllArrive plan c 14 most (Spares plan kinds c.node) cut
    → HasSpot plan number spot → Outage plan kinds number marks → (cut ≡ true → length marks ≤ most) → Arrives plan number marks spot
arrives_from plan kinds number most cover c cut spot marks at start all has outage few =
    let covers : Covers cover spot = subst (λ (o : Option Cover). IsSomeAnd o (λ x. Covers x spot)) at has in
    let from : AllArrive plan (start_of number cover) 14 most (Spares plan kinds cover.node) cut =
    subst (λ (x : Titles). AllArrive plan x 14 most (Spares plan kinds x.node) cut) start all in
    subst (ArrivesWithin plan number 14 marks) (start_spot number cover spot covers)
    (from.arrive spot.digits marks (start_member number cover spot covers)
    (record { losses = outage.losses; spared = entry_spared plan number cover marks at outage.spared }) few)

-- the cover of a start
start_cover : (plan : Network) (number : ℕ) (c : Titles) → IsSomeAnd (slice_get plan.covers number) (λ x. c ≡ start_of number x)
    → (cover : Cover) × (slice_get plan.covers number ≡ Some cover) × (c ≡ start_of number cover)
start_cover plan number c start = some_of (slice_get plan.covers number) (λ x. c ≡ start_of number x) start

pub survives_none : (plan : Network) (kinds : LossKinds) (number : ℕ) → SurvivesBelow plan kinds number 0
survives_none plan kinds number spot marks has outage few = absurd (omega (arith, few))

pub survives_more : (plan : Network) (kinds : LossKinds) (number most : ℕ) (c : Titles) (cut : Bool)
    → IsSomeAnd (slice_get plan.covers number) (λ x. c ≡ start_of number x) → AllArrive plan c 14 most (Spares plan kinds c.node) cut
    → SurvivesBelow plan kinds number (most + 1)
survives_more plan kinds number most c cut start all spot marks has outage few =
    let k = start_cover plan number c start in
    arrives_from plan kinds number most k.0 c cut spot marks k.1 k.2 all has outage (λ e. omega (arith, few))

pub survives_all : (plan : Network) (kinds : LossKinds) (number most : ℕ) (c : Titles)
    → IsSomeAnd (slice_get plan.covers number) (λ x. c ≡ start_of number x) → AllArrive plan c 14 most (Spares plan kinds c.node) false
    → SurvivesAll plan kinds number
survives_all plan kinds number most c start all spot marks has outage =
    let k = start_cover plan number c start in
    arrives_from plan kinds number most k.0 c false spot marks k.1 k.2 all has outage (λ e. absurd (false≢true e))

-- the stop that is found has as many losses as there may be, since fewer stop no title
pub is_stop : (plan : Network) (kinds : LossKinds) (number most : ℕ) (c : Titles) (digits : List ℕ) (lost : List Mark) (stop : Stop)
    → IsPlan plan
    → IsSomeAnd (slice_get plan.covers number) (λ x. c ≡ start_of number x) → IsAscending lost
    → StopsOne plan c 14 most (Spares plan kinds c.node) digits lost → SurvivesBelow plan kinds number most → stop.spot ≡ spot_of c digits
    → stop.markings ≡ replicate 14 lost → stop.hops ≡ route_in plan lost (spot_of c digits) → IsStop plan kinds number most stop
is_stop plan kinds number most c digits lost stop is start ascending stops below spot markings hops = record {
  marks = lost;
  covered = covered;
  outage = outage;
  size = ⊎_elim
      (λ (fewer : length lost < most). absurd (stopped (below stop.spot lost covered outage fewer)))
      (λ (le : most ≤ length lost). let few = stops.few in omega (arith, le, few))
      (cases_lt (length lost) most);
  stopped = stopped;
  markings = markings;
  hops = hops ∙ ap (route_in plan lost) (sym spot);
}
  where
    k : (cover : Cover) × (slice_get plan.covers number ≡ Some cover) × (c ≡ start_of number cover)
    k = start_cover plan number c start

    member : IsMember (start_of number k.0) digits
    member = subst (λ (x : Titles). IsMember x digits) k.2 stops.member

    covered : HasSpot plan number stop.spot
    covered = subst (HasSpot plan number) (sym (spot ∙ ap (λ (x : Titles). spot_of x digits) k.2))
        (subst (λ (o : Option Cover). IsSomeAnd o (λ x. Covers x (spot_of (start_of number k.0) digits))) (sym k.1)
        (member_covered plan.nodes number k.0 digits (cover_at plan number k.0 is k.1) member))

    outage : Outage plan kinds number lost
    outage = record {
      losses = stops.within.losses;
      once = once_from lost ascending;
      spared = spares_entry plan number k.0 lost is k.1
          (subst (λ (n : ℕ). holds lost (PointCode (point_of plan n)) ≡ false) (ap (λ (x : Titles). x.node) k.2) stops.within.spared);
    }

    stopped : Arrives plan number lost stop.spot → ⊥
    stopped h = stops.stopped (subst (λ (n : ℕ). ArrivesWithin plan n 14 lost (spot_of c digits)) (sym (ap (λ (x : Titles). x.cover) k.2))
        (subst (ArrivesWithin plan number 14 lost) spot h))
