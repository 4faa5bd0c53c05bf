-- the classes that the search counts are on the ways
use Rattle.std.specs.Prelude.{ℕ, ◌≡◌, ◌⊎◌, ◌+◌, ◌-◌, ◌<◌, ◌≤◌, List, ◌∷◌, length, drop, get_or, Result, Ok, Err, IfOk, OnOk, Option}
use Rattle.std.specs.Prelude.{IsSomeAnd, slice_get}
use Rattle.std.proofs.Common.{suc, sym, ◌∙◌, ap, subst, inr, ⊎_elim, arith, drop-cons, add-one}
use Rattle.std.proofs.lemmas.Bool.{cases_lt}
use Rattle.sccp_base.specs.declared.mark.Mark.{Mark}
use Rattle.plan_model.specs.declared.cover.Cover.{Cover}
use Rattle.plan_model.specs.Network.{Network}
use Rattle.plan_classes.specs.declared.leads.Image.TheVariants.{Next}
use Rattle.plan_classes.specs.Titles.{Titles, parts_of}
use Rattle.plan_classes.specs.Classes.{start_of, Decided, HasImage}
use Rattle.plan_check.proofs.Soundness.{some_of}
use Rattle.plan_margin.specs.declared.loss_kinds.LossKinds.{LossKinds}
use Rattle.plan_margin.specs.declared.outage_set.OutageSet.{OutageSet}
use Rattle.plan_margin.specs.declared.found.Found.{Found}
use Rattle.plan_margin.specs.declared.found.Found.TheVariants.{Stopped, Through, Wide}
use Rattle.plan_margin.specs.declared.turn.Turn.TheVariants.{Lost, Taken, Either}
use Rattle.plan_margin.specs.Searching.{IsTurn, IsOutageSet, IsWithUp, IsWithLost, IsWithinLimit, most_ways}
use Rattle.plan_margin.specs.Ways.{Stage, AtClass, AtClasses, AtTargets, AtTarget, Ways, Uncounted, Counted, InParts, ByRow, Each}
use Rattle.plan_margin.specs.Ways.{IsClosed, IsTaken, IfUp, Both, Onward, IsFirstSet, HasWays, HasManyWays}
use Rattle.plan_margin.specs.Ways.{Counts, CountsUp, CountsLost, IfWide}

-- a fact on a result from another one
on_ok_map : {E : Type 0} (r : Result Found E) (P Q : Type 0) → (P → Q) → OnOk r P → OnOk r Q
on_ok_map (Ok f) P Q g h = g h
on_ok_map (Err e) P Q g h = h

-- nothing is counted
pub counts_none : {E : Type 0} (r : Result Found E) (plan : Network) (set : OutageSet) (left : ℕ) (stage : Stage) (count : ℕ)
    → OnOk r (Counts plan set left stage count count)
counts_none (Ok f) plan set left stage count = record { met = 0; tree = Uncounted; sum = omega arith }
counts_none (Err e) plan set left stage count = tt

-- a class by itself, with its parts, and with its targets
pub counts_one : (plan : Network) (set : OutageSet) (left : ℕ) (c : Titles) (old : ℕ) → 0 < left
    → Counts plan set left (AtClass c) old (old + 1)
counts_one plan set left c old some = record { met = 1; tree = Counted some; sum = omega arith }

pub counts_parts : {E : Type 0} (r : Result Found E) (plan : Network) (set : OutageSet) (left : ℕ) (c : Titles) (old new : ℕ) → 0 < left
    → (Decided plan c → ⊥) → OnOk r (Counts plan set left (AtClasses (parts_of c)) (old + 1) new)
    → OnOk r (Counts plan set left (AtClass c) old new)
counts_parts r plan set left c old new some undecided =
    on_ok_map r (Counts plan set left (AtClasses (parts_of c)) (old + 1) new) (Counts plan set left (AtClass c) old new)
    (λ h. record { met = 1 + h.met; tree = InParts some undecided h.tree; sum = omega (arith, h.sum) })

pub counts_row : {E : Type 0} (r : Result Found E) (plan : Network) (set : OutageSet) (left : ℕ) (c : Titles) (old new : ℕ) → 0 < left
    → Decided plan c → OnOk r (Counts plan set left (AtTargets c 0) (old + 1) new) → OnOk r (Counts plan set left (AtClass c) old new)
counts_row r plan set left c old new some decided =
    on_ok_map r (Counts plan set left (AtTargets c 0) (old + 1) new) (Counts plan set left (AtClass c) old new)
    (λ h. record { met = 1 + h.met; tree = ByRow some decided h.tree; sum = omega (arith, h.sum) })

-- What is counted of the parts before a place. Whatever is counted of the others is added to it.
pub record CountsBefore (plan : Network) (set : OutageSet) (left : ℕ) (parts : List Titles) (i old now : ℕ) : Type 0 where
  pub met : ℕ
  pub rest : (n : ℕ) → Ways plan set left (AtClasses (drop i parts)) n → Ways plan set left (AtClasses parts) (met + n)
  pub sum : now ≡ old + met

pub before_first : (plan : Network) (set : OutageSet) (left : ℕ) (parts : List Titles) (old : ℕ)
    → CountsBefore plan set left parts 0 old old
before_first plan set left parts old = record {
  met = 0;
  rest = λ n tree. subst (Ways plan set left (AtClasses parts)) (let e : n ≡ 0 + n = omega arith in e) tree;
  sum = omega arith;
}

-- the ways of the parts from a place on, by those of the part there
from_part : (plan : Network) (set : OutageSet) (left : ℕ) (parts : List Titles) (i n m : ℕ) (p : Titles) → i < length parts
    → p ≡ get_or parts i p → Ways plan set left (AtClass p) n → Ways plan set left (AtClasses (drop (i + 1) parts)) m
    → Ways plan set left (AtClasses (drop i parts)) (n + m)
from_part plan set left parts i n m p lt at here after =
    let next : i + 1 ≡ suc i = add-one i in
    let split : p ∷ drop (i + 1) parts ≡ drop i parts =
    ap (λ (q : Titles). q ∷ drop (i + 1) parts) at
    ∙ (ap (λ (k : ℕ). get_or parts i p ∷ drop k parts) next ∙ sym (drop-cons parts i p lt)) in
    subst (λ (ps : List Titles). Ways plan set left (AtClasses ps) (n + m)) split (Each here after)

pub before_next : (plan : Network) (set : OutageSet) (left : ℕ) (parts : List Titles) (i old mid new : ℕ) (p : Titles) → i < length parts
    → p ≡ get_or parts i p → CountsBefore plan set left parts i old mid → Counts plan set left (AtClass p) mid new
    → CountsBefore plan set left parts (i + 1) old new
before_next plan set left parts i old mid new p lt at before here = record {
  met = before.met + here.met;
  rest = λ n tree. subst (Ways plan set left (AtClasses parts))
      (let e : before.met + (here.met + n) ≡ before.met + here.met + n = omega arith in e)
      (before.rest (here.met + n) (from_part plan set left parts i here.met n p lt at here.tree tree));
  sum = omega (arith, before.sum, here.sum);
}

-- all that is counted of the parts
pub counts_before : (plan : Network) (set : OutageSet) (left : ℕ) (parts all : List Titles) (i old now : ℕ) → parts ≡ all
    → CountsBefore plan set left parts i old now → Counts plan set left (AtClasses all) old now
counts_before plan set left parts all i old now same before =
    subst (λ (ps : List Titles). Counts plan set left (AtClasses ps) old now) same (record {
      met = before.met + 0;
      tree = before.rest 0 Uncounted;
      sum = omega (arith, before.sum);
    })

-- a target that is closed, and one that is taken
pub counts_closed : {E : Type 0} (r : Result Found E) (plan : Network) (set : OutageSet) (left : ℕ) (c : Titles) (place old new : ℕ)
    → IsTurn plan c place set Lost → OnOk r (Counts plan set left (AtTargets c (place + 1)) old new)
    → OnOk r (Counts plan set left (AtTargets c place) old new)
counts_closed r plan set left c place old new turn =
    on_ok_map r (Counts plan set left (AtTargets c (place + 1)) old new) (Counts plan set left (AtTargets c place) old new)
    (λ h. record { met = h.met; tree = IsClosed turn h.tree; sum = h.sum })

pub counts_taken : {E : Type 0} (r : Result Found E) (plan : Network) (set : OutageSet) (left : ℕ) (c : Titles) (place old new : ℕ)
    → IsTurn plan c place set Taken → OnOk r (Counts plan set left (AtTarget c place) old new)
    → OnOk r (Counts plan set left (AtTargets c place) old new)
counts_taken r plan set left c place old new turn =
    on_ok_map r (Counts plan set left (AtTarget c place) old new) (Counts plan set left (AtTargets c place) old new)
    (λ h. record { met = h.met; tree = IsTaken turn h.tree; sum = h.sum })

-- a target that is taken in some outages and closed in others
pub counts_if_up : {E : Type 0} (r : Result Found E) (plan : Network) (set up : OutageSet) (left : ℕ) (c : Titles)
    (place : ℕ) (mark : Mark) (old new : ℕ) → IsWithUp set mark up → OnOk r (Counts plan up left (AtTargets c place) old new)
    → OnOk r (CountsUp plan set left c place mark old new)
counts_if_up r plan set up left c place mark old new made =
    on_ok_map r (Counts plan up left (AtTargets c place) old new) (CountsUp plan set left c place mark old new)
    (λ h. record { up = up; made = made; counts = h })

pub counts_if_lost : {E : Type 0} (r : Result Found E) (plan : Network) (set lost : OutageSet) (left : ℕ) (c : Titles)
    (place : ℕ) (mark : Mark) (old new : ℕ) → IsOutageSet plan set → (length set.lost ≡ set.most → ⊥) → IsWithLost set mark lost
    → OnOk r (Counts plan lost left (AtTargets c (place + 1)) old new)
    → OnOk r ((new ≡ old) ⊎ CountsLost plan set left c place mark old new)
counts_if_lost r plan set lost left c place mark old new is room made =
    on_ok_map r (Counts plan lost left (AtTargets c (place + 1)) old new) ((new ≡ old) ⊎ CountsLost plan set left c place mark old new)
    (λ h. inr (record {
      lost = lost;
      room = ⊎_elim (λ (lt : length set.lost < set.most). lt)
          (λ (le : set.most ≤ length set.lost). absurd (room (let e : length set.lost ≡ set.most = omega (arith, le, is.few) in e)))
          (cases_lt (length set.lost) set.most);
      made = made;
      counts = h;
    }))

pub counts_up : (plan : Network) (set : OutageSet) (left : ℕ) (c : Titles) (place : ℕ) (mark : Mark) (old new : ℕ)
    → IsTurn plan c place set (Either mark) → CountsUp plan set left c place mark old new
    → Counts plan set left (AtTargets c place) old new
counts_up plan set left c place mark old new turn h =
    record { met = h.counts.met; tree = IfUp turn h.made h.counts.tree; sum = h.counts.sum }

pub counts_both : (plan : Network) (set : OutageSet) (left : ℕ) (c : Titles) (place : ℕ) (mark : Mark) (old mid new : ℕ)
    → IsTurn plan c place set (Either mark) → CountsUp plan set left c place mark old mid
    → (new ≡ mid) ⊎ CountsLost plan set left c place mark mid new → Counts plan set left (AtTargets c place) old new
counts_both plan set left c place mark old mid new turn up down = ⊎_elim
    (λ (cut : new ≡ mid). subst (Counts plan set left (AtTargets c place) old) (sym cut)
    (counts_up plan set left c place mark old mid turn up))
    (λ (h : CountsLost plan set left c place mark mid new). record {
      met = up.counts.met + h.counts.met;
      tree = Both turn up.made up.counts.tree h.room h.made h.counts.tree;
      sum = omega (arith, up.counts.sum, h.counts.sum);
    })
    down

-- the class that the taken target makes of it
pub counts_onward : (plan : Network) (set : OutageSet) (left : ℕ) (c next : Titles) (place old new : ℕ) → HasImage plan c place (Next next)
    → Counts plan set (left - 1) (AtClass next) old new → Counts plan set left (AtTarget c place) old new
counts_onward plan set left c next place old new image h = record { met = h.met; tree = Onward image h.tree; sum = h.sum }

-- a search that gives up has met that many classes
wide_from : (plan : Network) (kinds : LossKinds) (most : ℕ) (c : Titles) (set : OutageSet) (found : Found) (count : ℕ)
    → IsFirstSet plan kinds c.node most set
    → IsWithinLimit found count → Counts plan set 14 (AtClass c) 0 count → IfWide (HasWays plan kinds most c) found
wide_from plan kinds most c set (Stopped digits lost) count first limit counts = tt
wide_from plan kinds most c set (Through cut) count first limit counts = tt
wide_from plan kinds most c set Wide count first limit counts = record {
  set = set;
  first = first;
  tree = subst (Ways plan set 14 (AtClass c)) (let e : counts.met ≡ most_ways = omega (arith, counts.sum, limit) in e) counts.tree;
}

pub wide_ways : {E : Type 0} (r : Result Found E) (plan : Network) (kinds : LossKinds) (most : ℕ) (c : Titles) (set : OutageSet) (count : ℕ)
    → IsFirstSet plan kinds c.node most set → IfOk r (λ found. IsWithinLimit found count) → OnOk r (Counts plan set 14 (AtClass c) 0 count)
    → IfOk r (IfWide (HasWays plan kinds most c))
wide_ways (Ok found) plan kinds most c set count first limit counts = wide_from plan kinds most c set found count first limit counts
wide_ways (Err e) plan kinds most c set count first limit counts = limit

-- the ways from the start of a cover are those of the cover
pub many_ways : (plan : Network) (kinds : LossKinds) (number most : ℕ) (c : Titles)
    → IsSomeAnd (slice_get plan.covers number) (λ x. c ≡ start_of number x)
    → HasWays plan kinds most c → HasManyWays plan kinds number most
many_ways plan kinds number most c start ways =
    let k = some_of (slice_get plan.covers number) (λ x. c ≡ start_of number x) start in
    subst (λ (o : Option Cover). IsSomeAnd o (λ cover. HasWays plan kinds most (start_of number cover))) (sym k.1)
    (subst (HasWays plan kinds most) k.2 ways)
