-- a title's first hop, and whether it arrives
use Rattle.std.specs.Prelude.{ℕ, ◌≡◌, ◌-◌, ◌<◌, Bool, List, [], ◌∷◌, length, replicate, Option, Some, None, IsSomeAnd, slice_get, refl}
use Rattle.std.specs.Prelude.{if◌then◌else◌}
use Rattle.std.specs.List.{list_any, filter_map}
use Rattle.std.specs.Option.{option_and_then, option_map_or}
use Rattle.std.proofs.Common.{suc, sym, ◌∙◌, ap, subst, arith}
use Rattle.sccp_base.specs.declared.mark.Mark.{Mark}
use Rattle.plan_rules.specs.Rows.{has_selector}
use Rattle.plan_rules.specs.Rule.{Rule}
use Rattle.plan_model.specs.declared.node.Node.{Node}
use Rattle.plan_model.specs.declared.spot.Spot.{Spot}
use Rattle.plan_model.specs.declared.hop.Step.{Step}
use Rattle.plan_model.specs.declared.hop.Step.TheVariants.{Sent, NoRow}
use Rattle.plan_model.specs.declared.hop.Hop.{Hop}
use Rattle.plan_model.specs.Network.{Network}
use Rattle.plan_model.specs.Next.{next_of}
use Rattle.plan_model.specs.RowFor.{row_for, row_of}
use Rattle.plan_model.specs.Steps.{step, step_at, step_by, taken, blocked, closing, first_open}
use Rattle.plan_model.specs.Routes.{route, onward}
use Rattle.plan_model.specs.Verdicts.{last}
use Rattle.plan_model.proofs.Ways.{hop_at, last-onward}
use Rattle.plan_classes.specs.Titles.{Titles, IsClass, IsMember, spot_of}
use Rattle.plan_classes.specs.Classes.{Decided, Opens, class_row, class_targets, sample_of}
use Rattle.plan_classes.specs.Leading.{brought, OpensClass, Takes, GoesOnTo}
use Rattle.plan_classes.proofs.Taking.{opens_takes}
use Rattle.plan_check.proofs.Soundness.{some_of}
use Rattle.plan_margin.specs.Outages.{IsEndAllowed, ArrivesWithin}
use Rattle.plan_margin.specs.Searching.{StopsOne, AllArrive}

last-back : (h : Hop) (hs : List Hop) (P : Step → Type 0) → (P h.step → ⊥) → IsSomeAnd (last (h ∷ hs)) P → IsSomeAnd (last hs) P
last-back h [] P never e = absurd (never e)
last-back h (k ∷ ks) P never e = e

-- what holds of the last step of a route, by its first step
abbrev LastAfter : Network → ℕ → ℕ → List Mark → Spot → Option Spot → Type 0
LastAfter plan number n marks s o =
    IsSomeAnd (last (hop_at plan s marks ∷ onward o (λ u. route plan u (replicate n marks)))) (IsEndAllowed plan number)

-- a title that is sent on arrives if the next one does with one hop less, and only then
pub arrives_onward : (plan : Network) (number n left target : ℕ) (marks : List Mark) (s next : Spot) → left ≡ suc n
    → step plan s marks ≡ Sent next target → ArrivesWithin plan number n marks next → ArrivesWithin plan number left marks s
arrives_onward plan number n left target marks s next size sent there =
    subst (λ (k : ℕ). ArrivesWithin plan number k marks s) (sym size) (record {
      ends = subst (LastAfter plan number n marks s) (sym (ap next_of sent))
          (last-onward (hop_at plan s marks) (route plan next (replicate n marks)) (IsEndAllowed plan number) there.ends);
    })

pub arrived_onward : (plan : Network) (number n left target : ℕ) (marks : List Mark) (s next : Spot) → left ≡ suc n
    → step plan s marks ≡ Sent next target → ArrivesWithin plan number left marks s → ArrivesWithin plan number n marks next
arrived_onward plan number n left target marks s next size sent here =
    let h : ArrivesWithin plan number (suc n) marks s = subst (λ (k : ℕ). ArrivesWithin plan number k marks s) size here in
    record {
      ends = last-back (hop_at plan s marks) (route plan next (replicate n marks)) (IsEndAllowed plan number)
          (λ end. subst (IsEndAllowed plan number) sent end)
          (subst (LastAfter plan number n marks s) (ap next_of sent) h.ends);
    }

-- a title that is not sent on arrives if its first step is an allowed end, and only then
pub arrives_here : (plan : Network) (number n left : ℕ) (marks : List Mark) (s : Spot) (x : Step) → left ≡ suc n
    → step plan s marks ≡ x → next_of x ≡ None → IsEndAllowed plan number x → ArrivesWithin plan number left marks s
arrives_here plan number n left marks s x size is ends allowed =
    subst (λ (k : ℕ). ArrivesWithin plan number k marks s) (sym size) (record {
      ends = subst (LastAfter plan number n marks s) (sym (ap next_of is ∙ ends)) (subst (IsEndAllowed plan number) (sym is) allowed);
    })

pub arrived_here : (plan : Network) (number n left : ℕ) (marks : List Mark) (s : Spot) (x : Step) → left ≡ suc n
    → step plan s marks ≡ x → next_of x ≡ None → ArrivesWithin plan number left marks s → IsEndAllowed plan number x
arrived_here plan number n left marks s x size is ends here =
    let h : ArrivesWithin plan number (suc n) marks s = subst (λ (k : ℕ). ArrivesWithin plan number k marks s) size here in
    subst (IsEndAllowed plan number) is (subst (LastAfter plan number n marks s) (ap next_of is ∙ ends) h.ends)

-- what each title's step is if a target of the class is the first open one
pub takes : (plan : Network) (c : Titles) (place : ℕ) (marks : List Mark) → IsClass c → Decided plan c → OpensClass plan c place marks
    → Takes plan c place marks
takes plan c place marks class decided opens =
    let n = some_of (slice_get plan.nodes c.node) (λ x. Opens x c.ssn (class_targets plan c) place marks) opens in
    opens_takes plan n.0 c place marks class decided n.1 n.2

stepped : (plan : Network) (c : Titles) (place : ℕ) (marks : List Mark) (digits : List ℕ) (x : Step) → IsClass c → Decided plan c
    → OpensClass plan c place marks → IsMember c digits → brought plan c place digits ≡ Some x → step plan (spot_of c digits) marks ≡ x
stepped plan c place marks digits x class decided opens member is =
    let e : Some (step plan (spot_of c digits) marks) ≡ Some x = sym (takes plan c place marks class decided opens digits member) ∙ is in cc

-- the titles of a class arrive if those of the class that a target makes of it do
pub arrive_next : (plan : Network) (c next : Titles) (place left most : ℕ) (In : List Mark → Type 0) (cut : Bool) → 0 < left → IsClass c
    → Decided plan c → ((marks : List Mark) → In marks → OpensClass plan c place marks) → GoesOnTo plan c place next
    → next.cover ≡ c.cover → AllArrive plan next (left - 1) most In cut → AllArrive plan c left most In cut
arrive_next plan c next place left most In cut some class decided opens goes cover all = record {
  arrive = λ digits marks member inside few.
      let g = goes.each digits member in
      arrives_onward plan c.cover (left - 1) left place marks (spot_of c digits) (spot_of next g.0) (omega arith)
      (stepped plan c place marks digits (Sent (spot_of next g.0) place) class decided (opens marks inside) member g.2)
      (subst (λ (n : ℕ). ArrivesWithin plan n (left - 1) marks (spot_of next g.0)) cover (all.arrive g.0 marks g.1 inside few));
}

-- a title of the next class that is stopped, carried back
pub stops_back : (plan : Network) (c next : Titles) (place left most : ℕ) (In : List Mark
    → Type 0) (digits back : List ℕ) (lost : List Mark)
    → 0 < left → IsClass c → Decided plan c → OpensClass plan c place lost → next.cover ≡ c.cover → IsMember c back
    → brought plan c place back ≡ Some (Sent (spot_of next digits) place) → StopsOne plan next (left - 1) most In digits lost
    → StopsOne plan c left most In back lost
stops_back plan c next place left most In digits back lost some class decided opens cover member sent stop = record {
  member = member;
  within = stop.within;
  few = stop.few;
  stopped = λ here. stop.stopped
      (subst (λ (n : ℕ). ArrivesWithin plan n (left - 1) lost (spot_of next digits)) (sym cover)
      (arrived_onward plan c.cover (left - 1) left place lost (spot_of c back) (spot_of next digits) (omega arith)
      (stepped plan c place lost back (Sent (spot_of next digits) place) class decided opens member sent) here));
}

-- a title whose first step is not an allowed end
pub stops_here : (plan : Network) (c : Titles) (place left : ℕ) (digits : List ℕ) (lost : List Mark) (x : Step) → 0 < left → IsClass c
    → Decided plan c → OpensClass plan c place lost → IsMember c digits → brought plan c place digits ≡ Some x → next_of x ≡ None
    → (IsEndAllowed plan c.cover x → ⊥) → ArrivesWithin plan c.cover left lost (spot_of c digits) → ⊥
stops_here plan c place left digits lost x some class decided opens member is ends never here =
    never (arrived_here plan c.cover (left - 1) left lost (spot_of c digits) x (omega arith)
    (stepped plan c place lost digits x class decided opens member is) ends here)

-- titles whose first step is an allowed end
pub arrive_here : (plan : Network) (c : Titles) (place left most : ℕ) (In : List Mark → Type 0) (x : Step) (cut : Bool) → 0 < left
    → IsClass c
    → Decided plan c → ((marks : List Mark) → In marks → OpensClass plan c place marks)
    → ((digits : List ℕ) → IsMember c digits → brought plan c place digits ≡ Some x) → next_of x ≡ None → IsEndAllowed plan c.cover x
    → AllArrive plan c left most In cut
arrive_here plan c place left most In x cut some class decided opens is ends allowed = record {
  arrive = λ digits marks member inside few. arrives_here plan c.cover (left - 1) left marks (spot_of c digits) x (omega arith)
      (stepped plan c place marks digits x class decided (opens marks inside) member (is digits member)) ends allowed;
}

-- without a row a title does not arrive
pub no_row : (plan : Network) (number left : ℕ) (marks : List Mark) (s : Spot) → 0 < left → row_of plan s ≡ None
    → ArrivesWithin plan number left marks s → ⊥
no_row plan number left marks s some none here =
    let e : (cause : ℕ) × (step plan s marks ≡ NoRow cause) = elim (slice_get plan.nodes s.node) as (λ o.
    option_and_then (λ node. row_for node s) o ≡ None → (cause : ℕ) × (step_at plan s marks o ≡ NoRow cause)) [
      | None ↦ λ f. (0, refl)
      | Some node ↦ λ f. ((if list_any (has_selector s.selector) node.table then 1 else 0), ap (step_by plan node s marks) f)
    ] none in
    arrived_here plan number (left - 1) left marks s (NoRow e.0) (omega arith) e.1 refl here

-- nor if all targets are closed
pub all_closed : (plan : Network) (c : Titles) (left : ℕ) (marks : List Mark) (r : Rule) → 0 < left → c.node < length plan.nodes
    → class_row plan c ≡ Some r
    → ((node : Node) → slice_get plan.nodes c.node ≡ Some node → first_open node c.ssn marks 0 (class_targets plan c) ≡ None)
    → ArrivesWithin plan c.cover left marks (spot_of c (sample_of c)) → ⊥
all_closed plan c left marks r some inside row none here =
    let n = node_there plan c r row in
    let s : Spot = spot_of c (sample_of c) in
    let counts : row_for n.0 s ≡ Some r = sym (ap (option_and_then (λ (x : Node). row_for x s)) n.1) ∙ row in
    let shut : first_open n.0 c.ssn marks 0 r.targets ≡ None =
    sym (ap (λ (o : Option Rule). first_open n.0 c.ssn marks 0 (option_map_or (λ (q : Rule). q.targets) o [])) row) ∙ none n.0 n.1 in
    let is : step plan s marks ≡ blocked (filter_map (closing n.0 c.ssn marks) r.targets) =
    ap (step_at plan s marks) n.1 ∙ (ap (step_by plan n.0 s marks) counts ∙ ap (taken plan n.0 s marks r) shut) in
    arrived_here plan c.cover (left - 1) left marks s (blocked (filter_map (closing n.0 c.ssn marks) r.targets)) (omega arith) is refl here
  where
    node_there : (plan : Network) (c : Titles) (r : Rule) → class_row plan c ≡ Some r
        → (node : Node) × (slice_get plan.nodes c.node ≡ Some node)
    node_there plan c r row = elim (slice_get plan.nodes c.node) as (λ o. option_and_then (λ x. row_for x (spot_of c (sample_of c))) o
        ≡ Some r
        → (node : Node) × (o ≡ Some node)) [ None ↦ λ e. absurd (cc) | Some node ↦ λ e. (node, refl) ] row
