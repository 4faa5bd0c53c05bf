-- Ascending marks: a list of them is known by which marks it holds.
use Rattle.std.specs.Prelude.{◌≡◌, ◌⊎◌, Bool, true, false, cond, not, ◌&&◌, ◌||◌, List, [], ◌∷◌, ◌++◌, refl, filter}
use Rattle.std.specs.Ordering.{is_eq, is_lt, is_gt}
use Rattle.std.specs.Cmp.{tied_itself}
use Rattle.std.specs.declared.cmp.Ordering.{Ordering}
use Rattle.std.specs.declared.cmp.Ordering.TheVariants.{Less, Equal, Greater}
use Rattle.std.proofs.Common.{zero, suc, sym, ◌∙◌, ap, subst, inl, inr, ⊎_elim, arith, get_or}
use Rattle.std.proofs.lemmas.Bool.{false≢true}
use Rattle.std.proofs.lemmas.List.Folds.{list_any-append}
use Rattle.std.proofs.lemmas.List.Kept.{AllPairs-filter}
use Rattle.sccp_base.specs.declared.mark.Mark.{Mark}
use Rattle.sccp_base.specs.Marks.{mark_cmp, same_mark, holds, IsAscending}
use Rattle.sccp_base.specs.MarkOrder.{mark_cmp_total, same_mark_agrees, same_mark_equiv}
use Rattle.sccp_base.proofs.Among.{Among, Among-get_or, Among-unfilter, place_of_Among}
use Rattle.sccp_base.proofs.MarkPlaces.{same_mark_is, turned, turned_back}
use Rattle.sccp_manage.specs.Markings.{with_mark, without_marks}

-- ---- the answers of a comparison

less_greater : Less ≡ Greater → ⊥
less_greater e = false≢true (ap is_gt e)

less_equal : Less ≡ Equal → ⊥
less_equal e = false≢true (ap is_eq e)

is_less : (o : Ordering) → is_lt o ≡ true → o ≡ Less
is_less Less e = refl
is_less Equal e = absurd (false≢true e)
is_less Greater e = absurd (false≢true e)

is_greater : (o : Ordering) → is_gt o ≡ true → o ≡ Greater
is_greater Less e = absurd (false≢true e)
is_greater Equal e = absurd (false≢true e)
is_greater Greater e = refl

-- ---- lists in order

pub head_below : (x y : Mark) (xs : List Mark) → IsAscending (x ∷ xs) → Among y xs → mark_cmp x y ≡ Less
head_below x y xs ascending m =
    let k = place_of_Among y xs m in
    ap (mark_cmp x) (sym (k.2 y)) ∙ ascending 0 (suc k.0) y (omega arith) (omega (arith, k.1))

pub ascending_tail : (x : Mark) (xs : List Mark) → IsAscending (x ∷ xs) → IsAscending xs
ascending_tail x xs ascending = λ i j d lt bound. ascending (suc i) (suc j) d (omega arith) (omega arith)

pub ascending_cons : (x : Mark) (xs : List Mark) → ((y : Mark) → Among y xs → mark_cmp x y ≡ Less) → IsAscending xs → IsAscending (x ∷ xs)
ascending_cons x xs below rest zero zero d lt bound = absurd (omega arith)
ascending_cons x xs below rest zero (suc j) d lt bound = below (get_or xs j d) (Among-get_or xs j d (omega arith))
ascending_cons x xs below rest (suc i) zero d lt bound = absurd (omega arith)
ascending_cons x xs below rest (suc i) (suc j) d lt bound = rest i j d (omega arith) (omega arith)

Among-append : (y : Mark) (xs ys : List Mark) → Among y (xs ++ ys) → Among y xs ⊎ Among y ys
Among-append y [] ys m = inr m
Among-append y (x ∷ xs) ys m = ⊎_elim (λ e. inl (inl e)) (λ n. ⊎_elim (λ l. inl (inr l)) (λ r. inr r) (Among-append y xs ys n)) m

pub ascending_append : (xs ys : List Mark) → IsAscending xs → IsAscending ys
    → ((a b : Mark) → Among a xs → Among b ys → mark_cmp a b ≡ Less) → IsAscending (xs ++ ys)
ascending_append [] ys left right across = right
ascending_append (x ∷ xs) ys left right across =
    ascending_cons x (xs ++ ys)
    (λ y m. ⊎_elim (λ (n : Among y xs). head_below x y xs left n) (λ (n : Among y ys). across x y (inl refl) n) (Among-append y xs ys m))
    (ascending_append xs ys (ascending_tail x xs left) right (λ a b m n. across a b (inr m) n))

-- ---- which marks are held

pub same_itself : (m : Mark) → same_mark m m ≡ true
same_itself m = same_mark_equiv.refl m

pub holds-Among : (m : Mark) (xs : List Mark) → Among m xs → holds xs m ≡ true
holds-Among m [] a = absurd a
holds-Among m (x ∷ xs) a =
    ⊎_elim
    (λ (e : x ≡ m). ap (λ z. same_mark z m || holds xs m) e ∙ ap (λ b. b || holds xs m) (same_itself m))
    (λ (n : Among m xs). ap (λ b. same_mark x m || b) (holds-Among m xs n) ∙ or_true (same_mark x m))
    a
  where
    or_true : (b : Bool) → (b || true) ≡ true
    or_true true = refl
    or_true false = refl

pub Among-holds : (m : Mark) (xs : List Mark) → holds xs m ≡ true → Among m xs
Among-holds m [] h = absurd (false≢true h)
Among-holds m (x ∷ xs) h =
    elim (same_mark x m) as (λ b. same_mark x m ≡ b → (b || holds xs m) ≡ true → Among m (x ∷ xs)) [
      | true ↦ λ e k. inl (same_mark_is x m e)
      | false ↦ λ e k. inr (Among-holds m xs k)
    ] refl h

-- a mark is not held after itself
not_behind : (x : Mark) (xs : List Mark) → IsAscending (x ∷ xs) → holds xs x ≡ false
not_behind x xs ascending =
    elim (holds xs x) as (λ b. holds xs x ≡ b → b ≡ false) [
      | true ↦ λ e. absurd (less_equal (sym (head_below x x xs ascending (Among-holds x xs e)) ∙ tied_itself mark_cmp_total x))
      | false ↦ λ e. refl
    ] refl

-- what is held after the first mark
behind : (x : Mark) (xs : List Mark) → IsAscending (x ∷ xs) → (m : Mark) → holds xs m ≡ (not (same_mark x m) && holds (x ∷ xs) m)
behind x xs ascending m =
    elim (same_mark x m) as (λ b. same_mark x m ≡ b → holds xs m ≡ (not b && (b || holds xs m))) [
      | true ↦ λ e. ap (holds xs) (sym (same_mark_is x m e)) ∙ not_behind x xs ascending
      | false ↦ λ e. refl
    ] refl

first_same : (x y : Mark) (xs ys : List Mark) → IsAscending (x ∷ xs) → IsAscending (y ∷ ys)
    → ((m : Mark) → holds (x ∷ xs) m ≡ holds (y ∷ ys) m) → x ≡ y
first_same x y xs ys left right same =
    ⊎_elim
    (λ (e : y ≡ x). sym e)
    (λ (below : Among x ys). ⊎_elim
    (λ (e : x ≡ y). e)
    (λ (above : Among y xs). absurd (less_greater (sym (head_below x y xs left above) ∙ turned_back y x (head_below y x ys right below))))
    (Among-holds y (x ∷ xs) (same y ∙ holds-Among y (y ∷ ys) (inl refl))))
    (Among-holds x (y ∷ ys) (sym (same x) ∙ holds-Among x (x ∷ xs) (inl refl)))

-- two ascending markings that hold the same marks are one
pub told_by_held : (xs ys : List Mark) → IsAscending xs → IsAscending ys → ((m : Mark) → holds xs m ≡ holds ys m) → xs ≡ ys
told_by_held [] [] left right same = refl
told_by_held [] (y ∷ ys) left right same = absurd (false≢true (same y ∙ holds-Among y (y ∷ ys) (inl refl)))
told_by_held (x ∷ xs) [] left right same = absurd (false≢true (sym (same x) ∙ holds-Among x (x ∷ xs) (inl refl)))
told_by_held (x ∷ xs) (y ∷ ys) left right same =
    let e : x ≡ y = first_same x y xs ys left right same in
    let rest : xs ≡ ys =
    told_by_held xs ys (ascending_tail x xs left) (ascending_tail y ys right)
    (λ m. behind x xs left m ∙ (λ i. not (same_mark (e i) m) && same m i) ∙ sym (behind y ys right m)) in
    λ i. e i ∷ rest i

-- ---- a mark more, and marks less

pub holds-filter : (p : Mark → Bool) (xs : List Mark) (m : Mark) → holds (filter p xs) m ≡ (p m && holds xs m)
holds-filter p [] m = sym (and_false (p m))
  where
    and_false : (b : Bool) → (b && false) ≡ false
    and_false true = refl
    and_false false = refl
holds-filter p (x ∷ xs) m =
    elim (p x) as (λ b. p x ≡ b → holds (cond b (x ∷ filter p xs) (filter p xs)) m ≡ (p m && (same_mark x m || holds xs m))) [
      | true ↦ λ e. ap (λ b. same_mark x m || b) (holds-filter p xs m) ∙ kept e
      | false ↦ λ e. holds-filter p xs m ∙ left e
    ] refl
  where
    kept_by : (s q h : Bool) → (s ≡ true → q ≡ true) → (s || (q && h)) ≡ (q && (s || h))
    kept_by true true h f = refl
    kept_by true false h f = absurd (false≢true (f refl))
    kept_by false q h f = refl

    left_by : (s q h : Bool) → (s ≡ true → q ≡ false) → (q && h) ≡ (q && (s || h))
    left_by true true h f = absurd (false≢true (sym (f refl)))
    left_by true false h f = refl
    left_by false q h f = refl

    kept : p x ≡ true → (same_mark x m || (p m && holds xs m)) ≡ (p m && (same_mark x m || holds xs m))
    kept e = kept_by (same_mark x m) (p m) (holds xs m) (λ s. ap p (sym (same_mark_is x m s)) ∙ e)

    left : p x ≡ false → (p m && holds xs m) ≡ (p m && (same_mark x m || holds xs m))
    left e = left_by (same_mark x m) (p m) (holds xs m) (λ s. ap p (sym (same_mark_is x m s)) ∙ e)

by_order : (o : Ordering) (h : Bool) → ((is_lt o && h) || (is_eq o || (is_gt o && h))) ≡ (is_eq o || h)
by_order Less true = refl
by_order Less false = refl
by_order Equal h = refl
by_order Greater h = refl

same_turned : (a b : Mark) → same_mark a b ≡ is_eq (mark_cmp b a)
same_turned a b = same_mark_equiv.symm a b ∙ same_mark_agrees b a

pub holds-with : (marking : List Mark) (mark m : Mark) → holds (with_mark marking mark) m ≡ (same_mark mark m || holds marking m)
holds-with marking mark m =
    list_any-append (λ held. same_mark held m) (filter (λ held. is_lt (mark_cmp held mark)) marking)
    (mark ∷ filter (λ held. is_gt (mark_cmp held mark)) marking)
    ∙ (λ i. holds-filter (λ held. is_lt (mark_cmp held mark)) marking m i
    || (same_turned mark m i || holds-filter (λ held. is_gt (mark_cmp held mark)) marking m i))
    ∙ by_order (mark_cmp m mark) (holds marking m)
    ∙ ap (λ b. b || holds marking m) (sym (same_turned mark m))

pub ascending_with : (marking : List Mark) (mark : Mark) → IsAscending marking → IsAscending (with_mark marking mark)
ascending_with marking mark ascending =
    let before : List Mark = filter (λ held. is_lt (mark_cmp held mark)) marking in
    let after : List Mark = filter (λ held. is_gt (mark_cmp held mark)) marking in
    let is_before : (a : Mark) → Among a before → mark_cmp a mark ≡ Less =
    λ a m. is_less _ (Among-unfilter (λ held. is_lt (mark_cmp held mark)) a marking m).1 in
    let is_after : (a : Mark) → Among a after → mark_cmp mark a ≡ Less =
    λ a m. turned a mark (is_greater _ (Among-unfilter (λ held. is_gt (mark_cmp held mark)) a marking m).1) in
    ascending_append before (mark ∷ after)
    (AllPairs-filter (λ a b. mark_cmp a b ≡ Less) (λ held. is_lt (mark_cmp held mark)) marking ascending)
    (ascending_cons mark after is_after (AllPairs-filter (λ a b. mark_cmp a b ≡ Less)
    (λ held. is_gt (mark_cmp held mark)) marking ascending))
    (λ a b m n. ⊎_elim (λ (e : mark ≡ b). subst (λ z. mark_cmp a z ≡ Less) e (is_before a m))
    (λ (k : Among b after). mark_cmp_total.trans a mark b (is_before a m) (is_after b k)) n)

pub ascending_without : (allowed : Mark → Bool) (marking : List Mark) → IsAscending marking → IsAscending (without_marks allowed marking)
ascending_without allowed marking ascending = AllPairs-filter (λ a b. mark_cmp a b ≡ Less) (λ held. not (allowed held)) marking ascending

-- what a change leaves is known by what it holds
pub is_with : (before after : List Mark) (mark : Mark) → IsAscending before → IsAscending after
    → ((m : Mark) → holds after m ≡ (same_mark mark m || holds before m)) → after ≡ with_mark before mark
is_with before after mark up up_after held = told_by_held after (with_mark before mark) up_after (ascending_with before mark up)
    (λ m. held m ∙ sym (holds-with before mark m))

pub is_without : (before after : List Mark) (mark : Mark) → IsAscending before → IsAscending after
    → ((m : Mark) → holds after m ≡ (not (same_mark mark m) && holds before m)) → after ≡ without_marks (same_mark mark) before
is_without before after mark up up_after held =
    told_by_held after (without_marks (same_mark mark) before) up_after (ascending_without (same_mark mark) before up) (λ m. held m
    ∙ sym (holds-filter (λ h. not (same_mark mark h)) before m))
