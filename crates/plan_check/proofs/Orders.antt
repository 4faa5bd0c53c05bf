-- what the order of classes says of a table of ranks
use Rattle.std.specs.Prelude.{ℕ, ◌≡◌, ◌⊎◌, Bool, true, false, if◌then◌else◌, List, [], ◌∷◌, ◌++◌, map, Option, Some, None, refl, cond}
use Rattle.std.specs.List.{All}
use Rattle.std.specs.List.Sorted.{IsStrictlySortedBy}
use Rattle.std.specs.Ordering.{is_eq}
use Rattle.std.specs.declared.cmp.Ordering.TheVariants.{Less, Equal}
use Rattle.std.specs.Iterator.{Yields}
use Rattle.std.specs.Map.Iter.{TakesFirst}
use Rattle.std.specs.BTreeMap.{is_at}
use Rattle.std.proofs.Common.{sym, ◌∙◌, ap, subst, inl, inr}
use Rattle.std.proofs.lemmas.Cmp.{tied_itself}
use Rattle.std.proofs.lemmas.List.Elements.{All-head, All-tail, All-from_recursion}
use Rattle.std.proofs.lemmas.Map.{lookup-none}
use Rattle.std.proofs.lemmas.Map.Entries.{none_below_head}
use Rattle.std.proofs.lemmas.Map.Iter.{rest_so_far, rest_more}
use Rattle.std.proofs.lemmas.Map.Keys.{sorted_head, sorted_tail}
use Rattle.plan_model.specs.Network.{Network}
use Rattle.plan_classes.specs.Titles.{Titles}
use Rattle.plan_classes.proofs.Ordered.{class_total, same_class}
use Rattle.plan_check.specs.Ranking.{rank_in, class_cmp, classes_in}
use Rattle.plan_check.specs.Ranked.{IsRankedClass, IsRanked}

-- a class compares as equal with itself
pub own_order : (c : Titles) → class_cmp c c ≡ Equal
own_order c = tied_itself class_total c

pub own_class : (c : Titles) → is_eq (class_cmp c c) ≡ true
own_class c = ap is_eq (own_order c)

-- one more class has a rank
abbrev pub Puts : List (Titles × ℕ) → List (Titles × ℕ) → Titles → ℕ → Type 0
Puts before after c rank = (d : Titles) → rank_in after d ≡ (if is_eq (class_cmp c d) then Some rank else rank_in before d)

pub puts_own : (before after : List (Titles × ℕ)) (c : Titles) (rank : ℕ) → Puts before after c rank → rank_in after c ≡ Some rank
puts_own before after c rank puts = puts c ∙ ap (λ (b : Bool). if b then Some rank else rank_in before c) (own_class c)

-- a rank of the new table is the new one, or an old one
pub puts_case : (before after : List (Titles × ℕ)) (c d : Titles) (rank r : ℕ) → Puts before after c rank → rank_in after d ≡ Some r
    → ((c ≡ d) × (rank ≡ r)) ⊎ (rank_in before d ≡ Some r)
puts_case before after c d rank r puts e =
    elim (is_eq (class_cmp c d)) as (λ b. is_eq (class_cmp c d) ≡ b → (if b then Some rank else rank_in before d) ≡ Some r
    → ((c ≡ d) × (rank ≡ r)) ⊎ (rank_in before d ≡ Some r)) [
      | true ↦ λ same k. inl (same_class c d same, cc)
      | false ↦ λ other k. inr k
    ] refl (sym (puts d) ∙ e)

-- a class that is before another is not the same one
apart : (a b : Titles) → class_cmp a b ≡ Less → is_eq (class_cmp b a) ≡ true → ⊥
apart a b less same =
    let clash : Less ≡ Equal = sym less ∙ ap (class_cmp a) (same_class b a same) ∙ own_order a in
    absurd (cc)

-- the first class of a table is before the others
first_before : (x : Titles × ℕ) (es : List (Titles × ℕ)) → IsStrictlySortedBy class_cmp (classes_in (x ∷ es))
    → All (λ y. class_cmp x.0 y ≡ Less) (classes_in es)
first_before x es ordered = All-from_recursion (λ y. class_cmp x.0 y ≡ Less) (classes_in es)
    (sorted_head class_cmp x.0 (classes_in es) ordered)

later : (P : Titles → Type 0) (before after : List (Titles × ℕ)) (c : Titles) (r : ℕ) → All P (classes_in (before ++ (c, r) ∷ after)) → P c
later P [] after c r all = All-head P c (classes_in after) all
later P (x ∷ before) after c r all = later P before after c r (All-tail P x.0 (classes_in (before ++ (c, r) ∷ after)) all)

-- each entry of a table in order is what the table has for its class
entry_found : (before after : List (Titles × ℕ)) (c : Titles) (r : ℕ) → IsStrictlySortedBy class_cmp (classes_in (before ++ (c, r) ∷ after))
    → rank_in (before ++ (c, r) ∷ after) c ≡ Some r
entry_found [] after c r ordered = ap (λ (b : Bool). cond b (Some r) (rank_in after c)) (own_class c)
entry_found (x ∷ before) after c r ordered =
    elim (is_eq (class_cmp c x.0)) as (λ b. is_eq (class_cmp c x.0) ≡ b
    → cond b (Some x.1) (rank_in (before ++ (c, r) ∷ after) c) ≡ Some r) [
      | true ↦ λ same. absurd (apart x.0 c (later (λ y. class_cmp x.0 y ≡ Less) before after c r
          (first_before x (before ++ (c, r) ∷ after) ordered)) same)
      | false ↦ λ other. entry_found before after c r (sorted_tail class_cmp x.0 (classes_in (before ++ (c, r) ∷ after)) ordered)
    ] refl

-- what holds of the entries before one holds of the classes before its class
entry_before : (P : Titles → ℕ → Type 0) (before after : List (Titles × ℕ)) (c : Titles) (r : ℕ)
    → IsStrictlySortedBy class_cmp (classes_in (before ++ (c, r) ∷ after)) → All (λ e. P e.0 e.1) before → (d : Titles) (s : ℕ)
    → rank_in (before ++ (c, r) ∷ after) d ≡ Some s → class_cmp d c ≡ Less → P d s
entry_before P [] after c r ordered all d s has less =
    absurd (let none : rank_in ((c, r) ∷ after) d ≡ None = lookup-none (is_at (class_cmp d)) ((c, r) ∷ after)
    (none_below_head class_total d (c, r) after ordered less) in cc)
entry_before P (x ∷ before) after c r ordered all d s has less =
    elim (is_eq (class_cmp d x.0)) as (λ b. is_eq (class_cmp d x.0) ≡ b → cond b (Some x.1) (rank_in (before ++ (c, r) ∷ after) d) ≡ Some s
    → P d s) [
      | true ↦ λ same h.
          let rank : x.1 ≡ s = cc in
          subst (λ (q : Titles). P q s) (sym (same_class d x.0 same))
          (subst (λ (n : ℕ). P x.0 n) rank (All-head (λ e. P e.0 e.1) x before all))
      | false ↦ λ other h. entry_before P before after c r (sorted_tail class_cmp x.0 (classes_in (before ++ (c, r) ∷ after)) ordered)
          (All-tail (λ e. P e.0 e.1) x before all) d s h less
    ] refl has

pub has_entry : (ranks before after : List (Titles × ℕ)) (c : Titles) (r : ℕ) → IsStrictlySortedBy class_cmp (classes_in ranks)
    → ranks ≡ before ++ (c, r) ∷ after → rank_in ranks c ≡ Some r
has_entry ranks before after c r ordered is =
    subst (λ (es : List (Titles × ℕ)). rank_in es c ≡ Some r) (sym is)
    (entry_found before after c r (subst (λ (es : List (Titles × ℕ)). IsStrictlySortedBy class_cmp (classes_in es)) is ordered))

pub ranked_before : (plan : Network) (ranks before after : List (Titles × ℕ)) (c : Titles) (r : ℕ)
    → IsStrictlySortedBy class_cmp (classes_in ranks) → ranks ≡ before ++ (c, r) ∷ after
    → All (λ e. IsRankedClass plan (rank_in ranks) e.0 e.1) before → (d : Titles) (s : ℕ) → rank_in ranks d ≡ Some s → class_cmp d c ≡ Less
    → IsRankedClass plan (rank_in ranks) d s
ranked_before plan ranks before after c r ordered is all d s has less =
    entry_before (IsRankedClass plan (rank_in ranks)) before after c r
    (subst (λ (es : List (Titles × ℕ)). IsStrictlySortedBy class_cmp (classes_in es)) is ordered) all d s
    (subst (λ (es : List (Titles × ℕ)). rank_in es d ≡ Some s) is has) less

-- what holds of each entry holds of each class with its rank
entry_holds : (P : Titles → ℕ → Type 0) (es : List (Titles × ℕ)) → All (λ e. P e.0 e.1) es → (c : Titles) (r : ℕ) → rank_in es c ≡ Some r
    → P c r
entry_holds P [] all c r e = absurd (cc)
entry_holds P (x ∷ xs) all c r e =
    elim (is_eq (class_cmp c x.0)) as (λ b. is_eq (class_cmp c x.0) ≡ b → cond b (Some x.1) (rank_in xs c) ≡ Some r → P c r) [
      | true ↦ λ same h.
          let rank : x.1 ≡ r = cc in
          subst (λ (q : Titles). P q r) (sym (same_class c x.0 same)) (subst (λ (n : ℕ). P x.0 n) rank (All-head (λ e. P e.0 e.1) x xs all))
      | false ↦ λ other h. entry_holds P xs (All-tail (λ e. P e.0 e.1) x xs all) c r h
    ] refl e

pub ranked_all : (plan : Network) (ranks : List (Titles × ℕ)) → All (λ e. IsRankedClass plan (rank_in ranks) e.0 e.1) ranks
    → IsRanked plan (rank_in ranks)
ranked_all plan ranks all c r e = entry_holds (λ q n. IsRankedClass plan (rank_in ranks) q n) ranks all c r e

-- a list is the items before the present one, that item, and those that are left
pub rest_here : {A X : Type 0} (shows : A → X) (all : List X) (xs : List A) (s t u : List X) (r : Option A) (start : s ≡ all)
    (y : Yields (TakesFirst shows) s xs t) → (x : A) → r ≡ Some x → TakesFirst shows t r u → all ≡ map shows xs ++ shows x ∷ u
rest_here {A} {X} shows all xs s t u r start y x is step = sym start ∙ rest_so_far shows xs s t y
    ∙ ap (λ (l : List X). map shows xs ++ l) (rest_more shows t u r x is step)
