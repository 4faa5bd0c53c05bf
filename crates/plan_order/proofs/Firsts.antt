-- the relays whose rows differ, one after the other
use Rattle.std.specs.Prelude.{ℕ, ◌≡◌, ◌+◌, ◌<◌, ◌≤◌, true, List, [], ◌∷◌, ◌++◌, length, Option}
use Rattle.std.specs.Prelude.{slice_get, IsSomeAnd, slice_index_or, refl}
use Rattle.std.specs.List.{All}
use Rattle.std.proofs.Common.{sym, subst, ⊎_elim, arith}
use Rattle.std.proofs.lemmas.Bool.{cases_lt, cases_eq}
use Rattle.std.proofs.lemmas.Option.{slice_get_cases}
use Rattle.std.proofs.lemmas.List.Elements.{All-cons, All-nil, All-append}
use Rattle.plan_model.specs.declared.node.Node.{Node}
use Rattle.plan_model.specs.Network.{Network}
use Rattle.plan_order.specs.Sets.{is_in, Differs}
use Rattle.plan_order.specs.Searching.{IsSplit, AreFirst}
use Rattle.plan_order.proofs.Members.{in-left, in-right, own-one}
use Rattle.plan_order.proofs.Joining.{pairs_none, pairs_append}

pub first_none : (old new : Network) → AreFirst old new 0 []
first_none old new = record {
  each = All-nil (Differs old new);
  below = All-nil (λ (n : ℕ). n < 0);
  ascending = pairs_none (λ (a : ℕ) (b : ℕ). a < b);
  whole = λ n lt differs. absurd (omega (arith, lt));
}

higher : (count : ℕ) (differ : List ℕ) → All (λ n. n < count) differ → All (λ n. n < count + 1) differ
higher count differ below = λ k d lt. let h = below k d lt in omega (arith, h)

-- one more relay whose rows differ
pub first_more : (old new : Network) (count : ℕ) (differ : List ℕ) → Differs old new count → AreFirst old new count differ
    → AreFirst old new (count + 1) (differ ++ count ∷ [])
first_more old new count differ one first = record {
  each = All-append (Differs old new) differ (count ∷ []) first.each
      (All-cons (Differs old new) count [] one (All-nil (Differs old new)));
  below = All-append (λ (n : ℕ). n < count + 1) differ (count ∷ []) (higher count differ first.below)
      (All-cons (λ (n : ℕ). n < count + 1) count [] (omega arith) (All-nil (λ (n : ℕ). n < count + 1)));
  ascending = pairs_append (λ (a : ℕ) (b : ℕ). a < b) differ (count ∷ []) first.ascending
      (λ i j d lt within. absurd (omega (arith, lt, within)))
      (λ k d lt. All-cons (λ (b : ℕ). slice_index_or differ k d < b) count [] (first.below k d lt)
      (All-nil (λ (b : ℕ). slice_index_or differ k d < b)));
  whole = λ n lt differs. ⊎_elim (λ (e : n ≡ count). in-right differ (count ∷ []) n
      (subst (λ (m : ℕ). is_in (count ∷ []) m ≡ true) (sym e) (own-one count)))
      (λ (other : n ≡ count → ⊥). in-left differ (count ∷ []) n (first.whole n (below n lt other) differs)) (cases_eq n count);
}
  where
    below : (n : ℕ) → n < count + 1 → (n ≡ count → ⊥) → n < count
    below n lt other = ⊎_elim (λ (h : n < count). h) (λ (h : count ≤ n). absurd (other (omega (arith, lt, h)))) (cases_lt n count)

-- one more relay whose rows do not
pub first_kept : (old new : Network) (count : ℕ) (differ : List ℕ) → (Differs old new count → ⊥) → AreFirst old new count differ
    → AreFirst old new (count + 1) differ
first_kept old new count differ none first = record {
  each = first.each;
  below = higher count differ first.below;
  ascending = first.ascending;
  whole = λ n lt differs. ⊎_elim (λ (e : n ≡ count). absurd (none (subst (Differs old new) e differs)))
      (λ (other : n ≡ count → ⊥). first.whole n (below n lt other) differs) (cases_eq n count);
}
  where
    below : (n : ℕ) → n < count + 1 → (n ≡ count → ⊥) → n < count
    below n lt other = ⊎_elim (λ (h : n < count). h) (λ (h : count ≤ n). absurd (other (omega (arith, lt, h)))) (cases_lt n count)

-- a relay whose rows differ is one of the plan
differs_inside : (old new : Network) (n : ℕ) → Differs old new n → n < length old.nodes
differs_inside old new n differs =
    ⊎_elim (λ found. found.1)
    (λ past. absurd (subst (λ (o : Option Node). IsSomeAnd o (λ a. IsSomeAnd (slice_get new.nodes n) (λ b. a.table ≡ b.table → ⊥)))
    past.1 differs))
    (slice_get_cases old.nodes n).1

-- so those of the whole plan are all that are left at the beginning
pub first_all : (old new : Network) (differ : List ℕ) → AreFirst old new (length old.nodes) differ → IsSplit old new [] differ
first_all old new differ first = record {
  before = All-nil (Differs old new);
  after = first.each;
  ascending = first.ascending;
  apart = λ n h. refl;
  whole = λ n differs out. first.whole n (differs_inside old new n differs) differs;
}
