-- lists and keys between two others, in their order
use Rattle.std.specs.Prelude.{ℕ, ◌≡◌, false, List, [], ◌∷◌, ◌++◌, length, drop, refl}
use Rattle.std.specs.Ordering.{nat_cmp, ordering_then, ordering_reverse, is_lt}
use Rattle.std.specs.declared.cmp.Ordering.{Ordering}
use Rattle.std.specs.declared.cmp.Ordering.TheVariants.{Less, Equal, Greater}
use Rattle.std.specs.Cmp.{IsTotalOrder, nat_cmp_total}
use Rattle.std.specs.Cmp.Lexicographic.{slice_cmp}
use Rattle.std.proofs.Common.{sym, ◌∙◌, ap, subst}
use Rattle.std.proofs.lemmas.Bool.{false≢true}
use Rattle.std.proofs.lemmas.Cmp.{tied_itself}
use Rattle.std.proofs.lemmas.Map.Lookups.{exact_unsigned}
use Rattle.sccp_base.proofs.Prefix.{split-starts_with, starts_with-split}
use Rattle.plan_rules.specs.Keys.{selector_cmp}
use Rattle.plan_classes.proofs.Ordered.{selector_total, same_selector}
use Rattle.plan_covers.specs.Keys.{key_cmp}
use Rattle.plan_covers.specs.declared.cover_key.CoverKey.{CoverKey}
use Rattle.plan_change.specs.Near.{Begins}

-- ---- two that are not below each other

-- by the first of two orders they tie, and by the second they are not below each other either
record Tied (a o p : Ordering) : Type 0 where
  tie : a ≡ Equal
  first : is_lt o ≡ false
  second : is_lt p ≡ false

tied : {K : Type 0} (R : K → K → Ordering) → IsTotalOrder R → (x y : K) (o p : Ordering) → is_lt (ordering_then (R y x) o) ≡ false
    → is_lt (ordering_then (R x y) p) ≡ false → Tied (R y x) o p
tied R total x y o p h g = by (R y x) (R x y) (total.antisymm x y) h g
  where
    by : (a b : Ordering) → b ≡ ordering_reverse a → is_lt (ordering_then a o) ≡ false → is_lt (ordering_then b p) ≡ false → Tied a o p
    by Less b e h g = absurd (false≢true (sym h))
    by Equal b e h g = record { tie = refl; first = h; second = subst (λ c. is_lt (ordering_then c p) ≡ false) e g }
    by Greater b e h g = absurd (false≢true (sym (subst (λ c. is_lt (ordering_then c p) ≡ false) e g)))

-- ---- lists

-- a list is not below what begins it
not_less : (p z : List ℕ) → is_lt (slice_cmp nat_cmp (p ++ z) p) ≡ false
not_less [] [] = refl
not_less [] (y ∷ z) = refl
not_less (x ∷ p) z = ap (λ c. is_lt (ordering_then c (slice_cmp nat_cmp (p ++ z) p))) (tied_itself nat_cmp_total x) ∙ not_less p z

-- what begins a list begins each list between the two
list_between : (p r z : List ℕ) → is_lt (slice_cmp nat_cmp r p) ≡ false → is_lt (slice_cmp nat_cmp (p ++ z) r) ≡ false
    → (w : List ℕ) × (r ≡ p ++ w)
list_between [] r z h g = (r, refl)
list_between (x ∷ p) [] z h g = absurd (false≢true (sym h))
list_between (x ∷ p) (y ∷ r) z h g =
    let t = tied nat_cmp nat_cmp_total x y (slice_cmp nat_cmp r p) (slice_cmp nat_cmp (p ++ z) r) h g in
    let w = list_between p r z t.first t.second in
    let e : y ≡ x = exact_unsigned y x t.tie in
    (w.0, λ i. e i ∷ w.1 i)

-- ---- keys

ties : (a o : Ordering) → a ≡ Equal → is_lt o ≡ false → is_lt (ordering_then a o) ≡ false
ties a o e h = subst (λ c. is_lt (ordering_then c o) ≡ false) (sym e) h

-- a key is not below one that begins it
pub begun_not_below : (key k : CoverKey) → Begins key k → is_lt (key_cmp k key) ≡ false
begun_not_below key k h =
    ties (nat_cmp k.node key.node) _ (ap (nat_cmp k.node) h.node ∙ tied_itself nat_cmp_total k.node)
    (ties (selector_cmp k.selector key.selector) _ (ap (selector_cmp k.selector) h.selector ∙ tied_itself selector_total k.selector)
    (ties (nat_cmp k.ssn key.ssn) _ (ap (nat_cmp k.ssn) h.ssn ∙ tied_itself nat_cmp_total k.ssn)
    (ap (λ l. is_lt (slice_cmp nat_cmp l key.prefix)) (split-starts_with k.prefix key.prefix h.prefix)
    ∙ not_less key.prefix (drop (length key.prefix) k.prefix))))

-- what begins a key begins each key between the two
pub key_between : (key x y : CoverKey) → is_lt (key_cmp x key) ≡ false → is_lt (key_cmp y x) ≡ false → Begins key y → Begins key x
key_between key x y low high h =
    let whole : is_lt (key_cmp (record { node = key.node; selector = key.selector; ssn = key.ssn; prefix = y.prefix }) x) ≡ false =
    (λ i. is_lt (key_cmp (record { node = h.node i; selector = h.selector i; ssn = h.ssn i; prefix = y.prefix }) x)) ∙ high in
    let one = tied nat_cmp nat_cmp_total key.node x.node _ _ low whole in
    let two = tied selector_cmp selector_total key.selector x.selector _ _ one.first one.second in
    let three = tied nat_cmp nat_cmp_total key.ssn x.ssn (slice_cmp nat_cmp x.prefix key.prefix) (slice_cmp nat_cmp y.prefix x.prefix)
    two.first two.second in
    let w = list_between key.prefix x.prefix (drop (length key.prefix) y.prefix) three.first
    (subst (λ l. is_lt (slice_cmp nat_cmp l x.prefix) ≡ false) (split-starts_with y.prefix key.prefix h.prefix) three.second) in
    record {
      node = sym (exact_unsigned x.node key.node one.tie);
      selector = sym (same_selector x.selector key.selector two.tie);
      ssn = sym (exact_unsigned x.ssn key.ssn three.tie);
      prefix = starts_with-split x.prefix key.prefix w.0 w.1;
    }
