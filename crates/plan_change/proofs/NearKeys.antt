-- the covers whose keys are near a cover's key, in the order of keys
use Rattle.std.specs.Prelude.{ℕ, ◌≡◌, ◌+◌, ◌<◌, ◌≤◌, true, false, List, [], ◌∷◌, ◌++◌, length, take, drop, get_or}
use Rattle.std.specs.Prelude.{nat_eq}
use Rattle.std.specs.Ordering.{nat_cmp, is_lt}
use Rattle.std.specs.List.{Contains, starts_with}
use Rattle.std.specs.List.Sorted.{IsSorted, IsPermutation}
use Rattle.std.proofs.Common.{sym, ◌∙◌, ap, subst, ⊎_elim, arith}
use Rattle.std.proofs.Math.Seq.{take-append_seam}
use Rattle.std.proofs.lemmas.Bool.{cases_lt, false≢true}
use Rattle.std.proofs.lemmas.List.{append-nil, get_or_default}
use Rattle.std.proofs.lemmas.List.Elements.{Contains-push, Contains-append_left}
use Rattle.std.proofs.lemmas.List.Sorted.{Contains-permutation}
use Rattle.sccp_base.proofs.Prefix.{split-starts_with, starts_with-split, fits-starts_with, same_prefix}
use Rattle.plan_model.specs.declared.cover.Cover.{Cover}
use Rattle.plan_covers.specs.Keys.{key_of, front_key, key_cmp, placed_cmp}
use Rattle.plan_covers.specs.declared.cover_key.CoverKey.{CoverKey}
use Rattle.plan_covers.specs.declared.cover_order.PlacedKey.{PlacedKey}
use Rattle.plan_covers.proofs.KeyOrder.{later, by_first}
use Rattle.plan_covers.proofs.Groups.{IsBelow, not_below}
use Rattle.plan_change.specs.Near.{Begins, AreNear, HasPlacesOf, StayAmong}
use Rattle.plan_change.proofs.Between.{begun_not_below, key_between}

-- the places of the keys from `below` up to this place in the order are among these
abbrev pub HasUpTo : List PlacedKey → ℕ → ℕ → List ℕ → Type 0
HasUpTo order below next places = (k : ℕ) (d : PlacedKey) → below ≤ k → k < next → Contains places (get_or order k d).place

pub none_yet : (order : List PlacedKey) (below : ℕ) (places : List ℕ) → HasUpTo order below below places
none_yet order below places k d from lt = absurd (omega (arith, from, lt))

pub one_more : (order : List PlacedKey) (below next : ℕ) (p : PlacedKey) (places : List ℕ) → next < length order
    → p ≡ get_or order next p → HasUpTo order below next places → HasUpTo order below (next + 1) (places ++ p.place ∷ [])
one_more order below next p places inside is h k d from lt =
    ⊎_elim
    (λ (before : k < next). Contains-append_left places (p.place ∷ []) (get_or order k d).place (h k d from before))
    (λ (rest : next ≤ k).
    let same : k ≡ next = omega (arith, lt, rest) in
    subst (λ (q : PlacedKey). Contains (places ++ p.place ∷ []) q.place)
    (sym (ap (λ n. get_or order n d) same ∙ get_or_default order next d p inside ∙ sym is)) (Contains-push places p.place))
    (cases_lt k next)

pub stay_more : (before places : List ℕ) (place : ℕ) → StayAmong before places → StayAmong before (places ++ place ∷ [])
stay_more before places place h one c = Contains-append_left places (place ∷ []) one (h one c)

-- all keys for which P holds were met: none of them is below the key, and none is later
all_met : (P : CoverKey → Type 0) (order : List PlacedKey) (key : CoverKey) (below next : ℕ) (places : List ℕ) → IsBelow order key below
    → ((k : CoverKey) → P k → is_lt (key_cmp k key) ≡ false)
    → ((k : ℕ) (d : PlacedKey) → next ≤ k → k < length order → P (get_or order k d).key → ⊥)
    → HasUpTo order below next places → HasPlacesOf P order places
all_met P order key below next places parted low late h p c holds =
    ⊎_elim
    (λ (before : c.0 < below). absurd (false≢true (sym (low p.key holds)
    ∙ ap (λ (q : PlacedKey). is_lt (key_cmp q.key key)) (sym is) ∙ parted.0 c.0 p (omega arith) before)))
    (λ (from : below ≤ c.0).
    ⊎_elim
    (λ (lt : c.0 < next). subst (λ (q : PlacedKey). Contains places q.place) is (h c.0 p from lt))
    (λ (rest : next ≤ c.0). absurd (late c.0 p rest c.1 (subst (λ (q : PlacedKey). P q.key) (sym is) holds)))
    (cases_lt c.0 next))
    (cases_lt c.0 below)
  where
    is : get_or order c.0 p ≡ p
    is = c.2

-- a key at a place or after it is not below the one there
after : (order : List PlacedKey) (next k : ℕ) (p d : PlacedKey) → IsSorted placed_cmp order → next < length order
    → p ≡ get_or order next p → next ≤ k → k < length order → is_lt (key_cmp (get_or order k d).key p.key) ≡ false
after order next k p d sorted inside is le lt =
    ap (λ (q : PlacedKey). is_lt (key_cmp (get_or order k d).key q.key)) (is ∙ get_or_default order next p d inside)
    ∙ by_first (key_cmp (get_or order k d).key (get_or order next d).key) (nat_cmp (get_or order k d).place (get_or order next d).place)
    (later order next k d sorted le lt)

same_not_below : (key k : CoverKey) → k ≡ key → is_lt (key_cmp k key) ≡ false
same_not_below key k e = ap (λ c. is_lt (key_cmp c key)) e ∙ not_below key

-- the search for one key ends with the keys, or with the first one above
pub with_all : (order : List PlacedKey) (key : CoverKey) (below next : ℕ) (places : List ℕ) → IsBelow order key below
    → length order ≤ next → HasUpTo order below next places → HasPlacesOf (λ k. k ≡ key) order places
with_all order key below next places parted all h =
    all_met (λ k. k ≡ key) order key below next places parted (same_not_below key)
    (λ k d from lt same. absurd (omega (arith, all, from, lt))) h

pub with_above : (order : List PlacedKey) (key : CoverKey) (below next : ℕ) (p : PlacedKey) (places : List ℕ)
    → IsSorted placed_cmp order → IsBelow order key below → next < length order → p ≡ get_or order next p
    → is_lt (key_cmp key p.key) ≡ true → HasUpTo order below next places → HasPlacesOf (λ k. k ≡ key) order places
with_above order key below next p places sorted parted inside is above h =
    all_met (λ k. k ≡ key) order key below next places parted (same_not_below key)
    (λ k d from lt same. false≢true (sym (after order next k p d sorted inside is from lt)
    ∙ ap (λ c. is_lt (key_cmp c p.key)) same ∙ above))
    h

-- so does the search for keys that a key begins, or it ends with the first one that it does not begin
pub longer_all : (order : List PlacedKey) (key : CoverKey) (below next : ℕ) (places : List ℕ) → IsBelow order key below
    → length order ≤ next → HasUpTo order below next places → HasPlacesOf (Begins key) order places
longer_all order key below next places parted all h =
    all_met (Begins key) order key below next places parted (begun_not_below key)
    (λ k d from lt begins. absurd (omega (arith, all, from, lt))) h

pub longer_other : (order : List PlacedKey) (key : CoverKey) (below next : ℕ) (p : PlacedKey) (places : List ℕ)
    → IsSorted placed_cmp order → IsBelow order key below → below ≤ next → next < length order → p ≡ get_or order next p
    → (Begins key p.key → ⊥) → HasUpTo order below next places → HasPlacesOf (Begins key) order places
longer_other order key below next p places sorted parted from inside is other h =
    all_met (Begins key) order key below next places parted (begun_not_below key)
    (λ k d le lt begins. other (key_between key p.key (get_or order k d).key
    (ap (λ (q : PlacedKey). is_lt (key_cmp q.key key)) is ∙ parted.1 next p from inside)
    (after order next k p d sorted inside is le lt) begins))
    h

-- ---- keys near a cover's key

-- the places of covers whose keys begin the cover's with fewer digits
abbrev pub HasShorter : Cover → ℕ → List PlacedKey → List ℕ → Type 0
HasShorter cover count order places = (n : ℕ) → n < count → HasPlacesOf (λ k. k ≡ front_key cover n) order places

pub no_shorter : (cover : Cover) (order : List PlacedKey) (places : List ℕ) → HasShorter cover 0 order places
no_shorter cover order places n lt = absurd (omega (arith, lt))

pub one_shorter : (cover : Cover) (count : ℕ) (order : List PlacedKey) (before after : List ℕ) → StayAmong before after
    → HasPlacesOf (λ k. k ≡ front_key cover count) order after → HasShorter cover count order before
    → HasShorter cover (count + 1) order after
one_shorter cover count order before after stay here h n lt p c same =
    ⊎_elim
    (λ (less : n < count). stay p.place (h n less p c same))
    (λ (rest : count ≤ n). let e : n ≡ count = omega (arith, lt, rest) in here p c (same ∙ ap (front_key cover) e))
    (cases_lt n count)

-- a key that begins the cover's has the first digits of it
front_of : (cover : Cover) (k : CoverKey) → Begins k (key_of cover) → k ≡ front_key cover (length k.prefix)
front_of cover k h = λ i. record {
  node = h.node i;
  selector = h.selector i;
  ssn = h.ssn i;
  prefix = front i;
}
  where
    front : k.prefix ≡ take (length k.prefix) cover.prefix
    front = sym (take-append_seam k.prefix (drop (length k.prefix) cover.prefix))
        ∙ ap (take (length k.prefix)) (sym (split-starts_with cover.prefix k.prefix h.prefix))

-- as many digits are all digits
own : (cover : Cover) (k : CoverKey) → Begins k (key_of cover) → length cover.prefix ≤ length k.prefix → Begins (key_of cover) k
own cover k h le =
    let fits = fits-starts_with cover.prefix k.prefix h.prefix in
    let itself = starts_with-split cover.prefix cover.prefix [] (sym (append-nil cover.prefix)) in
    let same : k.prefix ≡ cover.prefix = same_prefix cover.prefix k.prefix cover.prefix h.prefix itself (omega (arith, le, fits)) in
    record {
      node = sym h.node;
      selector = sym h.selector;
      ssn = sym h.ssn;
      prefix = subst (λ l. starts_with nat_eq l cover.prefix ≡ true) (sym same) itself;
    }

-- all that is near was found, and is there in order
pub all_near : (cover : Cover) (order : List PlacedKey) (before found sorted : List ℕ) → HasShorter cover (length cover.prefix) order before
    → StayAmong before found → HasPlacesOf (Begins (key_of cover)) order found → IsPermutation found sorted
    → HasPlacesOf (AreNear (key_of cover)) order sorted
all_near cover order before found sorted shorter stay longer same p c near =
    Contains-permutation found sorted p.place same (⊎_elim
    (λ (h : Begins (key_of cover) p.key). longer p c h)
    (λ (h : Begins p.key (key_of cover)). ⊎_elim
    (λ (lt : length p.key.prefix < length cover.prefix). stay p.place (shorter (length p.key.prefix) lt p c (front_of cover p.key h)))
    (λ (le : length cover.prefix ≤ length p.key.prefix). longer p c (own cover p.key h le))
    (cases_lt (length p.key.prefix) (length cover.prefix)))
    near)
