-- the order of keys, and keys in order
use Rattle.std.specs.Prelude.{ℕ, ◌≡◌, ◌+◌, ◌≤◌, ◌<◌, false, List, length, get_or, refl}
use Rattle.std.specs.Ordering.{nat_cmp, ordering_then, ordering_reverse, ordering_index, is_lt}
use Rattle.std.specs.declared.cmp.Ordering.{Ordering}
use Rattle.std.specs.declared.cmp.Ordering.TheVariants.{Less, Equal, Greater}
use Rattle.std.specs.Cmp.{IsTotalOrder, IsStrictWeakOrder, then_total, on_total, nat_cmp_total}
use Rattle.std.specs.Cmp.Lexicographic.{nat_list_cmp_total}
use Rattle.std.specs.List.Sorted.{IsSorted, IsSortedBy, IsPartitionedBy}
use Rattle.std.proofs.Common.{sym, subst, arith, ltb}
use Rattle.std.proofs.lemmas.Bool.{false≢true}
use Rattle.std.proofs.lemmas.Bool.Decides.{nat_tests}
use Rattle.std.proofs.lemmas.List.Sorted.{ranks_by, sorted_far, searchable_from_sorted, IsPartitionedBy-ltb}
use Rattle.plan_classes.proofs.Ordered.{selector_total}
use Rattle.plan_covers.specs.declared.cover_key.CoverKey.{CoverKey}
use Rattle.plan_covers.specs.declared.cover_order.PlacedKey.{PlacedKey}
use Rattle.plan_covers.specs.Keys.{key_cmp, placed_cmp}

pub key_total : IsTotalOrder key_cmp
key_total =
    then_total (on_total (λ (k : CoverKey). k.node) nat_cmp_total) (then_total (on_total (λ (k : CoverKey). k.selector) selector_total)
    (then_total (on_total (λ (k : CoverKey). k.ssn) nat_cmp_total) (on_total (λ (k : CoverKey). k.prefix) nat_list_cmp_total)))

placed_total : IsTotalOrder placed_cmp
placed_total = then_total (on_total (λ (p : PlacedKey). p.key) key_total) (on_total (λ (p : PlacedKey). p.place) nat_cmp_total)

strict : IsStrictWeakOrder (λ (x y : PlacedKey). is_lt (placed_cmp x y))
strict = ranks_by placed_total (λ (p : PlacedKey). p)

-- of keys in order, none is below an earlier one
pub later : (order : List PlacedKey) (i j : ℕ) (d : PlacedKey) → IsSorted placed_cmp order → i ≤ j → j < length order
    → is_lt (placed_cmp (get_or order j d) (get_or order i d)) ≡ false
later order i j d sorted le lt = sorted_far (λ x y. is_lt (placed_cmp x y)) strict order sorted i j d le lt

-- what is not below by two orders, one after the other, is not below by the first
pub by_first : (o p : Ordering) → is_lt (ordering_then o p) ≡ false → is_lt o ≡ false
by_first Less p e = e
by_first Equal p e = refl
by_first Greater p e = refl

-- of what ties by the first order, the place that is not below is not before
pub by_place : (o : Ordering) (i k : ℕ) → is_lt (ordering_then o (nat_cmp i k)) ≡ false → is_lt o ≡ false
    → is_lt (ordering_reverse o) ≡ false → k ≤ i
by_place Less i k e f g = absurd (false≢true (sym f))
by_place Equal i k e f g = grind (arith, nat_tests)
by_place Greater i k e f g = absurd (false≢true (sym g))

keys_sorted : (order : List PlacedKey) → IsSorted placed_cmp order → IsSortedBy (λ a b. is_lt (key_cmp a.key b.key)) order
keys_sorted order sorted k d le lt =
    by_first (key_cmp (get_or order (k + 1) d).key (get_or order k d).key)
    (nat_cmp (get_or order (k + 1) d).place (get_or order k d).place) (sorted k d le lt)

index_below : (o : Ordering) → ltb (ordering_index o) 1 ≡ is_lt o
index_below Less = refl
index_below Equal = refl
index_below Greater = refl

-- of keys in order, those below a key are before the others
pub parted : (order : List PlacedKey) (key : CoverKey) → IsSorted placed_cmp order
    → IsPartitionedBy (λ (p : PlacedKey). is_lt (key_cmp p.key key)) order
parted order key sorted =
    subst (λ test. IsPartitionedBy test order) (λ i p. index_below (key_cmp p.key key) i)
    (IsPartitionedBy-ltb (λ (p : PlacedKey). ordering_index (key_cmp p.key key)) order 1
    (searchable_from_sorted key_total (λ (p : PlacedKey). p.key) order key (keys_sorted order sorted)))
