-- what is found of a class, from what is found of its parts, of its next classes and of smaller sets of outages
use Rattle.std.specs.Prelude.{ℕ, ◌≡◌, ◌+◌, ◌<◌, ◌≤◌, ◌||◌, true, false, Bool, List, length, take, get_or, Some, None, Result, Ok, Err}
use Rattle.std.specs.Prelude.{IfOk}
use Rattle.std.specs.List.{All}
use Rattle.std.proofs.Common.{sym, subst, ⊎_elim, arith, take_all}
use Rattle.std.proofs.lemmas.Bool.{cases_Bool, or_left, or_right}
use Rattle.std.proofs.lemmas.List.Elements.{All-push}
use Rattle.std.proofs.lemmas.List.{take_more}
use Rattle.sccp_base.specs.declared.mark.Mark.{Mark}
use Rattle.sccp_base.specs.Marks.{holds}
use Rattle.plan_rules.specs.Rule.{Rule}
use Rattle.plan_model.specs.declared.hop.Step.{Step}
use Rattle.plan_model.specs.Network.{Network}
use Rattle.plan_model.specs.Next.{next_of}
use Rattle.plan_classes.specs.Titles.{Titles, IsClass, IsMember, IsPart, Splits, spot_of}
use Rattle.plan_classes.specs.Classes.{Decided, class_row, class_targets, sample_of}
use Rattle.plan_classes.specs.Leading.{brought}
use Rattle.plan_classes.proofs.Images.{sample_member}
use Rattle.plan_classes.proofs.Parting.{same_spot}
use Rattle.plan_margin.specs.declared.outage_set.OutageSet.{OutageSet}
use Rattle.plan_margin.specs.declared.found.Found.{Found}
use Rattle.plan_margin.specs.declared.found.Found.TheVariants.{Stopped, Through, Wide}
use Rattle.plan_margin.specs.Outages.{ArrivesWithin, IsEndAllowed}
use Rattle.plan_margin.specs.Searching.{IsIn, IsOutageSet, StopsOne, AllArrive, IsFoundIf, IsFound, PassesOver, TakesIn, IsInWith, joined}
use Rattle.plan_margin.specs.Searching.{IsWithUp, IsWithLost}
use Rattle.plan_margin.proofs.Arriving.{no_row, all_closed, stops_here}
use Rattle.plan_margin.proofs.Passing.{none_opens}
use Rattle.plan_margin.proofs.Sets.{own_outage, lost_inner, lost_outer, up_inner, up_outer}

-- what holds of what an Ok has, if it is known what that is
pub ok_is : {E : Type 0} (r : Result Found E) (f : Found) (P : Found → Type 0) → IfOk r (λ x. x ≡ f) → P f → IfOk r P
ok_is (Ok x) f P e h = subst P (sym e) h
ok_is (Err e) f P h k = h

-- the losses of each outage of the set stop this title
pub own_stop : (plan : Network) (c : Titles) (left : ℕ) (set : OutageSet) (digits : List ℕ) → IsOutageSet plan set → IsMember c digits
    → (ArrivesWithin plan c.cover left set.lost (spot_of c digits) → ⊥) → StopsOne plan c left set.most (IsIn plan set) digits set.lost
own_stop plan c left set digits is member stopped =
    record { member = member; within = own_outage plan set is; few = is.few; stopped = stopped }

pub no_row_stop : (plan : Network) (c : Titles) (left : ℕ) (set : OutageSet) → IsClass c → IsOutageSet plan set → 0 < left
    → class_row plan c ≡ None → StopsOne plan c left set.most (IsIn plan set) (sample_of c) set.lost
no_row_stop plan c left set class is some none =
    own_stop plan c left set (sample_of c) is (sample_member c class)
    (no_row plan c.cover left set.lost (spot_of c (sample_of c)) some none)

pub past_stop : (plan : Network) (c : Titles) (left place : ℕ) (set : OutageSet) (r : Rule) → IsClass c → IsOutageSet plan set → 0 < left
    → c.node < length plan.nodes → class_row plan c ≡ Some r → PassesOver plan c place set → length (class_targets plan c) ≤ place
    → StopsOne plan c left set.most (IsIn plan set) (sample_of c) set.lost
past_stop plan c left place set r class is some node row passes past =
    own_stop plan c left set (sample_of c) is (sample_member c class)
    (all_closed plan c left set.lost r some node row (λ n at. none_opens plan c set.lost place n at (omega (arith, passes.within, past))
    (passes.closed set.lost (own_outage plan set is))))

-- a title for which the taken target is no allowed end
pub target_stop : (plan : Network) (c : Titles) (place left : ℕ) (set : OutageSet) (digits : List ℕ) (x : Step) → 0 < left → IsClass c
    → Decided plan c → TakesIn plan c place set → IsOutageSet plan set → IsMember c digits → brought plan c place digits ≡ Some x
    → next_of x ≡ None → (IsEndAllowed plan c.cover x → ⊥) → StopsOne plan c left set.most (IsIn plan set) digits set.lost
target_stop plan c place left set digits x some class decided takes is member leads ends never =
    own_stop plan c left set digits is member
    (stops_here plan c place left digits set.lost x some class decided (takes set.lost (own_outage plan set is)) member leads ends never)

-- what is found of the outages with a mark held, after those in which it is not
pub both_found : (plan : Network) (c : Titles) (left : ℕ) (mark : Mark) (set : OutageSet) (cut : Bool) (found : Found)
    → AllArrive plan c left set.most (IsInWith plan set mark false) cut
    → IsFoundIf plan c left set.most (IsInWith plan set mark true) found → IsFound plan c left set (joined cut found)
both_found plan c left mark set cut (Stopped digits lost) up stop =
    record { member = stop.member; within = stop.within.inside; few = stop.few; stopped = stop.stopped }
both_found plan c left mark set cut (Through other) up down = record {
  arrive = λ digits marks member inside few. ⊎_elim
      (λ (h : holds marks mark ≡ true). down.arrive digits marks member (record { inside = inside; held = h })
      (λ e. few (or_right cut other e)))
      (λ (h : holds marks mark ≡ false). up.arrive digits marks member (record { inside = inside; held = h })
      (λ e. few (or_left cut other e)))
      (cases_Bool (holds marks mark));
}
both_found plan c left mark set cut Wide up wide = tt

-- a stop under some marks is one under others of which these are some
pub stop_within : (plan : Network) (c : Titles) (left most : ℕ) (In Out : List Mark → Type 0) (digits : List ℕ) (lost : List Mark)
    → ((marks : List Mark) → In marks → Out marks) → StopsOne plan c left most In digits lost → StopsOne plan c left most Out digits lost
stop_within plan c left most In Out digits lost f stop =
    record { member = stop.member; within = f lost stop.within; few = stop.few; stopped = stop.stopped }

-- what is found if the marks are the same
pub found_same : (plan : Network) (c : Titles) (left most : ℕ) (In Out : List Mark → Type 0) (found : Found)
    → ((marks : List Mark) → In marks → Out marks) → ((marks : List Mark) → Out marks → In marks)
    → IsFoundIf plan c left most In found → IsFoundIf plan c left most Out found
found_same plan c left most In Out (Stopped digits lost) f g stop = stop_within plan c left most In Out digits lost f stop
found_same plan c left most In Out (Through cut) f g all =
    record { arrive = λ digits marks member inside few. all.arrive digits marks member (g marks inside) few }
found_same plan c left most In Out Wide f g wide = tt

-- a title of a part is one of the class
pub part_stop : (plan : Network) (c part : Titles) (left most : ℕ) (In : List Mark → Type 0) (digits : List ℕ) (lost : List Mark)
    → IsPart c part → StopsOne plan part left most In digits lost → StopsOne plan c left most In digits lost
part_stop plan c part left most In digits lost is stop = record {
  member = is.inside digits stop.member;
  within = stop.within;
  few = stop.few;
  stopped = λ here. stop.stopped
      (subst (λ (n : ℕ). ArrivesWithin plan n left lost (spot_of part digits)) (sym is.cover)
      (subst (ArrivesWithin plan c.cover left lost) (sym (same_spot c part digits is)) here));
}

-- one more part, after those whose titles arrive
pub parts_more : (plan : Network) (left most : ℕ) (In : List Mark → Type 0) (parts : List Titles) (i : ℕ) (p : Titles) (cut other : Bool)
    → i < length parts → p ≡ get_or parts i p → All (λ part. AllArrive plan part left most In cut) (take i parts)
    → AllArrive plan p left most In other → All (λ part. AllArrive plan part left most In (cut || other)) (take (i + 1) parts)
parts_more plan left most In parts i p cut other lt at before here =
    subst (All (λ part. AllArrive plan part left most In (cut || other))) (sym (take_more parts i p lt))
    (All-push (λ part. AllArrive plan part left most In (cut || other)) (take i parts) (get_or parts i p)
    (λ k d inside. let a = before k d inside in record {
      arrive = λ digits marks member there few. a.arrive digits marks member there (λ e. few (or_left cut other e));
    })
    (subst (λ (x : Titles). AllArrive plan x left most In (cut || other)) at (record {
      arrive = λ digits marks member there few. here.arrive digits marks member there (λ e. few (or_right cut other e));
    })))

-- the titles of all parts are those of the class
pub parts_whole : (plan : Network) (c : Titles) (left most : ℕ) (In : List Mark → Type 0) (parts : List Titles) (i : ℕ) (cut : Bool)
    → Splits c parts → length parts ≤ i → All (λ part. AllArrive plan part left most In cut) (take i parts)
    → AllArrive plan c left most In cut
parts_whole plan c left most In parts i cut splits past before = record {
  arrive = λ digits marks member inside few.
      let found = splits.whole digits member in
      let part : IsPart c found.1 = subst (IsPart c) found.3 (splits.each found.0 found.1 found.2) in
      let all : AllArrive plan found.1 left most In cut = subst (λ (x : Titles). AllArrive plan x left most In cut) found.3
      (subst (All (λ x. AllArrive plan x left most In cut)) (take_all i parts past) before found.0 found.1 found.2) in
      subst (λ (n : ℕ). ArrivesWithin plan n left marks (spot_of c digits)) part.cover
      (subst (ArrivesWithin plan found.1.cover left marks) (same_spot c found.1 digits part) (all.arrive digits marks found.4 inside few));
}

-- what is found of the outages in which one more mark is held, or is not
pub lost_found : (plan : Network) (c : Titles) (left : ℕ) (mark : Mark) (set more : OutageSet) (found : Found) → IsWithLost set mark more
    → IsFound plan c left more found → IsFoundIf plan c left set.most (IsInWith plan set mark true) found
lost_found plan c left mark set more found made h =
    found_same plan c left set.most (IsIn plan more) (IsInWith plan set mark true) found
    (λ marks i. lost_inner plan set more mark marks made i)
    (λ marks i. lost_outer plan set more mark marks made i)
    (subst (λ (n : ℕ). IsFoundIf plan c left n (IsIn plan more) found) made.most h)

pub up_found : (plan : Network) (c : Titles) (left : ℕ) (mark : Mark) (set more : OutageSet) (found : Found) → IsWithUp set mark more
    → IsFound plan c left more found → IsFoundIf plan c left set.most (IsInWith plan set mark false) found
up_found plan c left mark set more found made h =
    found_same plan c left set.most (IsIn plan more) (IsInWith plan set mark false) found
    (λ marks i. up_inner plan set more mark marks made i)
    (λ marks i. up_outer plan set more mark marks made i)
    (subst (λ (n : ℕ). IsFoundIf plan c left n (IsIn plan more) found) made.most h)
