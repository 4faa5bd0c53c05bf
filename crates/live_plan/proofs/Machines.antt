-- The law of the machine, by induction over the events, and the events of a batch.
use Rattle.std.proofs.Common.{◌≡◌, ◌∙◌, ℕ, ◌<◌, ◌≤◌, max, List, [], ◌∷◌, ◌++◌, length, map, get_or, refl, sym, ap, subst, le_refl, le_trans}
use Rattle.std.proofs.Common.{zero, suc, arith, append_assoc, append-nil, length-append}
use Rattle.std.specs.Prelude.{slice_index, slice_set}
use mathlib.Core.List.{IsPrefix}
use Rattle.std.proofs.lemmas.List.Elements.{All-nil, All-cons, All-append}
use Rattle.std.proofs.lemmas.List.Sums.{fold-append}
use Rattle.plan_check.specs.Verified.{Verified}
use Rattle.live_plan.proofs.Prefixes.{prefix_self, prefix_trans}
use Rattle.live_plan.specs.Machine.{Machine, Event, Publish, Enter, Learn, IsValid, MayCome, MayAllCome, IsLater, IsOfBatch, LeadsTo}
use Rattle.live_plan.specs.Machine.{after_event, after_events, with_number}

-- if one number is set to no less, each number is no less
number_le-set : (numbers : List ℕ) (worker n at : ℕ) → slice_index numbers worker ≤ n
    → slice_index numbers at ≤ slice_index (slice_set numbers worker n) at
number_le-set [] worker n at le = le_refl _
number_le-set (x ∷ xs) zero n zero le = le
number_le-set (x ∷ xs) zero n (suc at) le = le_refl _
number_le-set (x ∷ xs) (suc worker) n zero le = le_refl _
number_le-set (x ∷ xs) (suc worker) n (suc at) le = number_le-set xs worker n at le

-- if each number and the new one are within a bound, so is each afterwards
set_le : (numbers : List ℕ) (worker n at most : ℕ) → ((w : ℕ) → slice_index numbers w ≤ most) → n ≤ most
    → slice_index (slice_set numbers worker n) at ≤ most
set_le [] worker n at most all le = all at
set_le (x ∷ xs) zero n zero most all le = le
set_le (x ∷ xs) zero n (suc at) most all le = all (suc at)
set_le (x ∷ xs) (suc worker) n zero most all le = all zero
set_le (x ∷ xs) (suc worker) n (suc at) most all le = set_le xs worker n at most (λ w. all (suc w)) le

set_rises : (m : Machine) (worker n : ℕ) → IsValid m → slice_index m.numbers worker ≤ n → n ≤ length m.plans
    → IsLater m (with_number m worker n)
set_rises m worker n valid le most = record {
  plans = prefix_self m.plans;
  numbers = λ at. number_le-set m.numbers worker n at le;
  valid = λ at. set_le m.numbers worker n at (length m.plans) valid most;
}

one_event : (m : Machine) (e : Event) → IsValid m → MayCome m e → IsLater m (after_event m e)
one_event m (Publish plan) valid may = record {
  plans = (plan ∷ [], refl);
  numbers = λ worker. le_refl _;
  valid = λ worker. let v = valid worker in omega (arith, length-append m.plans (plan ∷ []));
}
one_event m (Enter worker) valid may = set_rises m worker (length m.plans) valid (valid worker) (le_refl _)
one_event m (Learn worker n) valid may = let v = valid worker in set_rises m worker (max (slice_index m.numbers worker) n) valid
    (omega arith) (omega arith)

later_trans : (m n o : Machine) → IsLater m n → IsLater n o → IsLater m o
later_trans m n o p q = record {
  plans = prefix_trans m.plans n.plans o.plans p.plans q.plans;
  numbers = λ worker. le_trans (p.numbers worker) (q.numbers worker);
  valid = q.valid;
}

pub all_later : (m : Machine) (events : List Event) → IsValid m → MayAllCome m events → IsLater m (after_events m events)
all_later m [] valid may = record { plans = prefix_self m.plans; numbers = λ worker. le_refl _; valid = valid }
all_later m (e ∷ es) valid may =
    let one = one_event m e valid may.0 in
    later_trans m (after_event m e) (after_events (after_event m e) es) one (all_later (after_event m e) es one.valid may.1)

-- what events of a batch lead to is later
pub leads_later : (m after : Machine) → IsValid m → LeadsTo m after → IsLater m after
leads_later m after valid leads = subst (IsLater m) leads.last (all_later m leads.events valid leads.may)

stays : (m : Machine) → LeadsTo m m
stays m = record { events = []; each = All-nil IsOfBatch; may = tt; last = refl }

by_event : (m : Machine) (e : Event) → IsOfBatch e → MayCome m e → LeadsTo m (after_event m e)
by_event m e is may = record { events = e ∷ []; each = All-cons IsOfBatch e [] is (All-nil IsOfBatch); may = (may, tt); last = refl }

may_append : (m : Machine) (es fs : List Event) → MayAllCome m es → MayAllCome (after_events m es) fs → MayAllCome m (es ++ fs)
may_append m [] fs may more = more
may_append m (e ∷ es) fs may more = (may.0, may_append (after_event m e) es fs may.1 more)

leads_trans : (m n o : Machine) → LeadsTo m n → LeadsTo n o → LeadsTo m o
leads_trans m n o p q = record {
  events = p.events ++ q.events;
  each = All-append IsOfBatch p.events q.events p.each q.each;
  may = may_append m p.events q.events p.may (subst (λ (x : Machine). MayAllCome x q.events) (sym p.last) q.may);
  last = fold-append after_event m p.events q.events ∙ (ap (λ (x : Machine). after_events x q.events) p.last ∙ q.last);
}

abbrev pub made_of : List Verified → List ℕ → Machine
made_of plans numbers = record { plans = plans; numbers = numbers }

-- plans are published one after the other
published : (before rest : List Verified) (numbers : List ℕ) → LeadsTo (made_of before numbers) (made_of (before ++ rest) numbers)
published before [] numbers = subst (λ (l : List Verified). LeadsTo (made_of before numbers) (made_of l numbers)) (sym (append-nil before))
    (stays (made_of before numbers))
published before (plan ∷ rest) numbers =
    let one : LeadsTo (made_of before numbers) (made_of (before ++ plan ∷ []) numbers) =
    by_event (made_of before numbers) (Publish plan) tt tt in
    let others : LeadsTo (made_of (before ++ plan ∷ []) numbers) (made_of (before ++ plan ∷ rest) numbers) =
    subst (λ (l : List Verified). LeadsTo (made_of (before ++ plan ∷ []) numbers) (made_of l numbers))
    (append_assoc before (plan ∷ []) rest) (published (before ++ plan ∷ []) rest numbers) in
    leads_trans (made_of before numbers) (made_of (before ++ plan ∷ []) numbers) (made_of (before ++ plan ∷ rest) numbers) one others

-- each number rises to the one at its place, which is at most this
abbrev Rise : ℕ → List ℕ → List ℕ → Type 0
Rise most [] [] = Unit {0}
Rise most [] (y ∷ ys) = ⊥
Rise most (x ∷ xs) [] = ⊥
Rise most (x ∷ xs) (y ∷ ys) = (x ≤ y) × (y ≤ most) × Rise most xs ys

learned_at : (front xs : List ℕ) (x y : ℕ) → x ≤ y
    → slice_set (front ++ x ∷ xs) (length front) (max (slice_index (front ++ x ∷ xs) (length front)) y) ≡ (front ++ y ∷ []) ++ xs
learned_at [] xs x y le = let e : max x y ≡ y = omega arith in ap (λ (n : ℕ). n ∷ xs) e
learned_at (f ∷ front) xs x y le = ap (λ (ns : List ℕ). f ∷ ns) (learned_at front xs x y le)

-- each worker after the first ones learns its number
learned : (plans : List Verified) (front xs ys : List ℕ) → Rise (length plans) xs ys
    → LeadsTo (made_of plans (front ++ xs)) (made_of plans (front ++ ys))
learned plans front [] [] rise = stays (made_of plans (front ++ []))
learned plans front [] (y ∷ ys) rise = absurd rise
learned plans front (x ∷ xs) [] rise = absurd rise
learned plans front (x ∷ xs) (y ∷ ys) rise =
    let m = made_of plans (front ++ x ∷ xs) in
    let n = made_of plans ((front ++ y ∷ []) ++ xs) in
    let o = made_of plans (front ++ y ∷ ys) in
    let one : LeadsTo m n = subst (λ (ns : List ℕ). LeadsTo m (made_of plans ns)) (learned_at front xs x y rise.0)
    (by_event m (Learn (length front) y) tt rise.1) in
    let others : LeadsTo n o = subst (λ (ns : List ℕ). LeadsTo n (made_of plans ns)) (append_assoc front (y ∷ []) ys)
    (learned plans (front ++ y ∷ []) xs ys rise.2) in
    leads_trans m n o one others

module _ {A : Type 0} (number : A → ℕ) where
  pub number_at : (xs : List A) (i : ℕ) (d : A) → i < length xs → slice_index (map number xs) i ≡ number (get_or xs i d)
  number_at [] i d lt = absurd (omega arith)
  number_at (x ∷ xs) zero d lt = refl
  number_at (x ∷ xs) (suc i) d lt = number_at xs i d (omega arith)

  rises : (most : ℕ) (xs ys : List A) → length ys ≡ length xs
      → ((i : ℕ) (d : A) → i < length xs → (number (get_or xs i d) ≤ number (get_or ys i d)) × (number (get_or ys i d) ≤ most))
      → Rise most (map number xs) (map number ys)
  rises most [] [] e each = tt
  rises most [] (y ∷ ys) e each = absurd (omega (arith, e))
  rises most (x ∷ xs) [] e each = absurd (omega (arith, e))
  rises most (x ∷ xs) (y ∷ ys) e each =
      let here = each zero x (omega arith) in
      (here.0, here.1, rises most xs ys (omega (arith, e)) (λ i d lt. each (suc i) d (omega arith)))

  -- first the plans are published, and then each learns how many there are for it
  pub batch_leads : (before after : List Verified) (xs ys : List A) → IsPrefix before after → length ys ≡ length xs
      → ((i : ℕ) (d : A) → i < length xs → (number (get_or xs i d) ≤ number (get_or ys i d)) × (number (get_or ys i d) ≤ length after))
      → LeadsTo (made_of before (map number xs)) (made_of after (map number ys))
  batch_leads before after xs ys begins long each =
      let m = made_of before (map number xs) in
      let n = made_of after (map number xs) in
      let o = made_of after (map number ys) in
      let first : LeadsTo m n = subst (λ (l : List Verified). LeadsTo m (made_of l (map number xs))) begins.1
      (published before begins.0 (map number xs)) in
      leads_trans m n o first (learned after [] (map number xs) (map number ys) (rises (length after) xs ys long each))
