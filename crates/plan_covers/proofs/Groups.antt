-- covers with one key, in the order of keys
use Rattle.std.specs.Prelude.{ℕ, ◌≡◌, ◌+◌, ◌<◌, ◌≤◌, true, false, List, [], ◌∷◌, ◌++◌, length, Option, Some, None, IsSomeAnd}
use Rattle.std.specs.Prelude.{slice_get, get_or, refl}
use Rattle.std.specs.Ordering.{nat_cmp, is_lt}
use Rattle.std.specs.List.{All, Contains}
use Rattle.std.specs.List.Sorted.{IsPartitionPoint, IsPermutation}
use Rattle.std.proofs.Common.{sym, ◌∙◌, ap, subst, ⊎_elim, arith}
use Rattle.std.proofs.lemmas.Bool.{cases_lt, false≢true}
use Rattle.std.proofs.lemmas.Cmp.{tied_itself}
use Rattle.std.proofs.lemmas.Option.{slice_get_within}
use Rattle.std.proofs.lemmas.List.{get_or_default}
use Rattle.std.proofs.lemmas.List.Elements.{All-nil, All-push, Contains-push, Contains-append_left}
use Rattle.std.proofs.lemmas.List.Sorted.{All-permutation, Contains-permutation}
use Rattle.plan_model.specs.declared.cover.Cover.{Cover}
use Rattle.plan_covers.specs.declared.cover_key.CoverKey.{CoverKey}
use Rattle.plan_covers.specs.declared.cover_order.PlacedKey.{PlacedKey}
use Rattle.plan_covers.specs.Keys.{key_of, key_cmp, placed_cmp, placed, IsKeyIn, HasKeys, IsOrder}
use Rattle.plan_covers.specs.Needless.{IsNeedlessBy}
use Rattle.plan_covers.specs.Firsts.{IsFirstOf}
use Rattle.plan_covers.proofs.KeyOrder.{key_total, later, by_first, by_place}

pub has_none : (covers : List Cover) (keys : List PlacedKey) → keys ≡ [] → HasKeys covers 0 keys
has_none covers keys empty =
    record {
      each = subst (All (IsKeyIn covers)) (sym empty) (All-nil (IsKeyIn covers));
      whole = λ place cover lt at. absurd (omega (arith, lt));
    }

pub has_more : (covers : List Cover) (count : ℕ) (cover : Cover) (keys : List PlacedKey) → slice_get covers count ≡ Some cover
    → HasKeys covers count keys → HasKeys covers (count + 1) (keys ++ placed cover count ∷ [])
has_more covers count cover keys here h =
    record {
      each = All-push (IsKeyIn covers) keys (placed cover count) h.each
          (subst (λ (o : Option Cover). IsSomeAnd o (λ c. key_of cover ≡ key_of c)) (sym here) refl);
      whole = λ place other lt at. ⊎_elim
          (λ (before : place < count). Contains-append_left keys (placed cover count ∷ []) (placed other place)
          (h.whole place other before at))
          (λ (rest : count ≤ place).
          let same : count ≡ place = omega (arith, lt, rest) in
          let own : Some cover ≡ Some other = sym here ∙ ap (slice_get covers) same ∙ at in
          let one : cover ≡ other = cc in
          subst (Contains (keys ++ placed cover count ∷ [])) (λ i. placed (one i) (same i)) (Contains-push keys (placed cover count)))
          (cases_lt place count);
    }

pub has_same : (covers : List Cover) (count : ℕ) (keys sorted : List PlacedKey) → IsPermutation keys sorted → HasKeys covers count keys
    → HasKeys covers count sorted
has_same covers count keys sorted same h =
    record {
      each = All-permutation (IsKeyIn covers) keys sorted same h.each;
      whole = λ place cover lt at. Contains-permutation keys sorted (placed cover place) same (h.whole place cover lt at);
    }

-- the place of a key is that of a cover
pub place_within : (covers : List Cover) (keys : List PlacedKey) (k : ℕ) (p : PlacedKey) → All (IsKeyIn covers) keys → k < length keys
    → p ≡ get_or keys k p → p.place < length covers
place_within covers keys k p each lt is = go (slice_get covers p.place) refl (subst (IsKeyIn covers) (sym is) (each k p lt))
  where
    go : (o : Option Cover) → slice_get covers p.place ≡ o → IsSomeAnd o (λ cover. p.key ≡ key_of cover) → p.place < length covers
    go None e h = absurd h
    go (Some cover) e h = slice_get_within covers p.place cover e

-- how many keys in order are below a key
abbrev pub IsBelow : List PlacedKey → CoverKey → ℕ → Type 0
IsBelow order key below = IsPartitionPoint (λ (p : PlacedKey). is_lt (key_cmp p.key key) ≡ true)
    (λ (p : PlacedKey). is_lt (key_cmp p.key key) ≡ false) order below

-- a key is not below itself
pub not_below : (key : CoverKey) → is_lt (key_cmp key key) ≡ false
not_below key = ap is_lt (tied_itself key_total key)

-- the place in the order of a cover with the key: it is not among those that are below the key
record Found (order : List PlacedKey) (below i : ℕ) (other : Cover) : Type 0 where
  k : ℕ
  from : below ≤ k
  inside : k < length order
  is : (d : PlacedKey) → get_or order k d ≡ placed other i

found : (covers : List Cover) (order : List PlacedKey) (key : CoverKey) (below i : ℕ) (other : Cover) → IsOrder covers order
    → IsBelow order key below → slice_get covers i ≡ Some other → key_of other ≡ key → i < length covers → Found order below i other
found covers order key below i other ordered parted at same lt =
    record { k = here.0; from = from; inside = here.1; is = is }
  where
    here : Contains order (placed other i)
    here = ordered.keys.whole i other lt at

    is : (d : PlacedKey) → get_or order here.0 d ≡ placed other i
    is d = get_or_default order here.0 d (placed other i) here.1 ∙ here.2

    from : below ≤ here.0
    from = ⊎_elim
        (λ (low : here.0 < below). absurd (false≢true (sym (not_below key)
        ∙ ap (λ k. is_lt (key_cmp k key)) (sym same ∙ ap (λ (p : PlacedKey). p.key) (sym (is (placed other i))))
        ∙ parted.0 here.0 (placed other i) (omega arith) low)))
        (λ (high : below ≤ here.0). high)
        (cases_lt here.0 below)

-- the keys from `below` up to this place are those of covers to which the cover at place j does not add nothing
abbrev pub NoneYet : List Cover → List PlacedKey → ℕ → ℕ → ℕ → Type 0
NoneYet covers order j below next = (k : ℕ) (d : PlacedKey) → below ≤ k → k < next → IsNeedlessBy covers j (get_or order k d).place → ⊥

pub none_more : (covers : List Cover) (order : List PlacedKey) (j below next : ℕ) (p : PlacedKey) → next < length order
    → p ≡ get_or order next p → (IsNeedlessBy covers j p.place → ⊥) → NoneYet covers order j below next
    → NoneYet covers order j below (next + 1)
none_more covers order j below next p inside is not h k d from lt needless =
    ⊎_elim
    (λ (before : k < next). h k d from before needless)
    (λ (rest : next ≤ k).
    let same : k ≡ next = omega (arith, lt, rest) in
    not (subst (λ (q : PlacedKey). IsNeedlessBy covers j q.place)
    (ap (λ n. get_or order n d) same ∙ get_or_default order next d p inside ∙ sym is) needless))
    (cases_lt k next)

-- nothing is found if no key is left
pub none_left : (covers : List Cover) (order : List PlacedKey) (key : CoverKey) (j below next : ℕ) → IsOrder covers order
    → IsBelow order key below → length order ≤ next → NoneYet covers order j below next
    → IsFirstOf (λ other. key_of other ≡ key) covers j None
none_left covers order key j below next ordered parted all none =
    record {
      needless = tt;
      least = λ i other at same needless.
          let f = found covers order key below i other ordered parted at same (slice_get_within covers i other at) in
          absurd (none f.k (placed other i) f.from (omega (arith, f.inside, all))
          (subst (λ (p : PlacedKey). IsNeedlessBy covers j p.place) (sym (f.is (placed other i))) needless));
    }

-- what is at this place of the order or after it is not below the key at this place
after : (covers : List Cover) (order : List PlacedKey) (below i next : ℕ) (other : Cover) (p : PlacedKey) → IsOrder covers order
    → next < length order → p ≡ get_or order next p → (f : Found order below i other) → next ≤ f.k
    → is_lt (placed_cmp (placed other i) p) ≡ false
after covers order below i next other p ordered inside is f le =
    ap (λ q. is_lt (placed_cmp q p)) (sym (f.is p)) ∙ ap (λ q. is_lt (placed_cmp (get_or order f.k p) q)) is
    ∙ later order next f.k p ordered.sorted le f.inside

-- nor if the next key is above
pub none_above : (covers : List Cover) (order : List PlacedKey) (key : CoverKey) (j below next : ℕ) (p : PlacedKey)
    → IsOrder covers order → IsBelow order key below → next < length order → p ≡ get_or order next p
    → is_lt (key_cmp key p.key) ≡ true → NoneYet covers order j below next → IsFirstOf (λ other. key_of other ≡ key) covers j None
none_above covers order key j below next p ordered parted inside is above none =
    record {
      needless = tt;
      least = λ i other at same needless.
          let f = found covers order key below i other ordered parted at same (slice_get_within covers i other at) in
          ⊎_elim
          (λ (before : f.k < next). absurd (none f.k (placed other i) f.from before
          (subst (λ (q : PlacedKey). IsNeedlessBy covers j q.place) (sym (f.is (placed other i))) needless)))
          (λ (rest : next ≤ f.k). absurd (false≢true (sym (by_first (key_cmp (key_of other) p.key) (nat_cmp i p.place)
          (after covers order below i next other p ordered inside is f rest)) ∙ ap (λ k. is_lt (key_cmp k p.key)) same ∙ above)))
          (cases_lt f.k next);
    }

-- the first that is found is the least, since the places under one key ascend
pub one_found : (covers : List Cover) (order : List PlacedKey) (key : CoverKey) (j below next : ℕ) (p : PlacedKey)
    → IsOrder covers order → IsBelow order key below → below ≤ next → next < length order → p ≡ get_or order next p
    → is_lt (key_cmp key p.key) ≡ false → IsNeedlessBy covers j p.place → NoneYet covers order j below next
    → IsFirstOf (λ other. key_of other ≡ key) covers j (Some p.place)
one_found covers order key j below next p ordered parted from inside is up here none =
    record {
      needless = here;
      least = λ i other at same needless.
          let f = found covers order key below i other ordered parted at same (slice_get_within covers i other at) in
          ⊎_elim
          (λ (before : f.k < next). absurd (none f.k (placed other i) f.from before
          (subst (λ (q : PlacedKey). IsNeedlessBy covers j q.place) (sym (f.is (placed other i))) needless)))
          (λ (rest : next ≤ f.k). by_place (key_cmp (key_of other) p.key) i p.place
          (after covers order below i next other p ordered inside is f rest)
          (ap (λ k. is_lt (key_cmp k p.key)) same ∙ up)
          (ap is_lt (sym (key_total.antisymm p.key (key_of other))) ∙ ap (λ k. is_lt (key_cmp p.key k)) same
          ∙ ap (λ (q : PlacedKey). is_lt (key_cmp q.key key)) is ∙ parted.1 next p from inside))
          (cases_lt f.k next);
    }
