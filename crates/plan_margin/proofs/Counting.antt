-- how many marks a list has that holds those of another
use Rattle.std.specs.Prelude.{ℕ, ◌≡◌, ◌≢◌, ◌<◌, ◌≤◌, ◌||◌, true, false, List, [], ◌∷◌, length, refl, get_or}
use Rattle.std.specs.List.{All, AllPairs}
use Rattle.std.specs.Ordering.{ordering_reverse}
use Rattle.std.specs.declared.cmp.Ordering.TheVariants.{Less, Greater}
use Rattle.std.proofs.Common.{zero, suc, sym, ◌∙◌, ap, subst, inl, inr, ⊎_elim, arith}
use Rattle.std.proofs.lemmas.Bool.{false≢true, or_cases}
use Rattle.sccp_base.specs.declared.mark.Mark.{Mark}
use Rattle.sccp_base.specs.Marks.{IsAscending, mark_cmp, same_mark, holds}
use Rattle.sccp_base.specs.MarkOrder.{mark_cmp_total}
use Rattle.sccp_base.proofs.Among.{Among, All-among}
use Rattle.sccp_base.proofs.MarkPlaces.{same_mark_is}
use Rattle.plan_classes.proofs.Openings.{among_holds, holds_among}

-- no mark is there twice
abbrev pub Distinct : List Mark → Type 0
Distinct [] = Unit {0}
Distinct (x ∷ xs) = (Among x xs → ⊥) × Distinct xs

-- the place of one of the marks
place_among : (x : Mark) (xs : List Mark) → Among x xs → (k : ℕ) × (k < length xs) × (get_or xs k x ≡ x)
place_among x [] a = absurd a
place_among x (y ∷ ys) a = elim a [
  | inl e ↦ (0, (let z : 0 < length (y ∷ ys) = omega arith in z), e)
  | inr n ↦ let r = place_among x ys n in (suc r.0, (let z : suc r.0 < length (y ∷ ys) = omega (arith, r.1) in z), r.2)
]

-- no mark is below itself
not_below : (x : Mark) → mark_cmp x x ≡ Less → ⊥
not_below x e =
    let turned : mark_cmp x x ≡ Greater = mark_cmp_total.antisymm x x ∙ ap ordering_reverse e in
    let apart : Less ≡ Greater = sym e ∙ turned in cc

pub distinct_from : (xs : List Mark) → IsAscending xs → Distinct xs
distinct_from [] ascending = tt
distinct_from (x ∷ xs) ascending = (
  λ a.
      let p = place_among x xs a in
      let below : mark_cmp x (get_or xs p.0 x) ≡ Less = ascending 0 (suc p.0) x (omega arith) (omega (arith, p.1)) in
      not_below x (ap (mark_cmp x) (sym p.2) ∙ below),
  distinct_from xs (λ i j d lt inside. ascending (suc i) (suc j) d (omega (arith, lt)) (omega (arith, inside))),
)

-- the marks of a list without one of them
record Without (x : Mark) (ys : List Mark) : Type 0 where
  pub rest : List Mark
  pub size : length ys ≡ suc (length rest)
  pub others : (m : Mark) → Among m ys → (x ≡ m → ⊥) → Among m rest

without : (x : Mark) (ys : List Mark) → Among x ys → Without x ys
without x [] a = absurd a
without x (y ∷ ys) a = elim a [
  | inl e ↦ record {
    rest = ys;
    size = refl;
    others = λ m b apart. ⊎_elim (λ (f : y ≡ m). absurd (apart (sym e ∙ f))) (λ (n : Among m ys). n) b;
  }
  | inr n ↦
      let w = without x ys n in
      record {
        rest = y ∷ w.rest;
        size = ap suc w.size;
        others = λ m b apart. ⊎_elim (λ (f : y ≡ m). inl f) (λ (k : Among m ys). inr (w.others m k apart)) b;
      }
]

-- distinct marks that are all among others are no more than these
pub no_more : (xs ys : List Mark) → Distinct xs → ((m : Mark) → Among m xs → Among m ys) → length xs ≤ length ys
no_more [] ys apart inside = omega arith
no_more (x ∷ xs) ys apart inside =
    let w = without x ys (inside x (inl refl)) in
    let rest : length xs ≤ length w.rest = no_more xs w.rest apart.1 (λ m a. w.others m (inside m (inr a))
    (λ e. apart.0 (subst (λ (k : Mark). Among k xs) (sym e) a))) in
    omega (arith, rest, w.size)

-- the same of ascending marks that are all held
pub no_more_held : (xs ys : List Mark) → IsAscending xs → ((m : Mark) → holds xs m ≡ true → holds ys m ≡ true) → length xs ≤ length ys
no_more_held xs ys ascending held =
    no_more xs ys (distinct_from xs ascending) (λ m a. among_holds ys m (held m (holds_among xs m a)))

-- marks that hold all of these and one more are more
pub one_more_held : (x : Mark) (xs ys : List Mark) → IsAscending xs → holds xs x ≡ false → holds ys x ≡ true
    → ((m : Mark) → holds xs m ≡ true → holds ys m ≡ true) → length xs < length ys
one_more_held x xs ys ascending new here held =
    let more : length (x ∷ xs) ≤ length ys = no_more (x ∷ xs) ys (
      λ a. false≢true (sym new ∙ holds_among xs x a),
      distinct_from xs ascending,
    ) (λ m a. ⊎_elim (λ (e : x ≡ m). subst (λ (k : Mark). Among k ys) e (among_holds ys x here))
    (λ (n : Among m xs). among_holds ys m (held m (holds_among xs m n))) a) in
    omega (arith, more)

-- marks that hold no more than these and one more are at most one more
pub at_most_one_more : (x : Mark) (xs more : List Mark) → IsAscending more
    → ((m : Mark) → holds more m ≡ (same_mark x m || holds xs m)) → length more ≤ suc (length xs)
at_most_one_more x xs more ascending is =
    no_more more (x ∷ xs) (distinct_from more ascending) (λ m a. ⊎_elim (λ (e : same_mark x m ≡ true). inl (same_mark_is x m e))
    (λ (e : holds xs m ≡ true). inr (among_holds xs m e)) (or_cases (same_mark x m) (holds xs m) (sym (is m) ∙ holds_among more m a)))

-- what holds of all marks, as a fact on what is held
pub held_of_all : (P : Mark → Type 0) (xs : List Mark) → All P xs → (m : Mark) → holds xs m ≡ true → P m
held_of_all P xs all m h = All-among P m xs all (among_holds xs m h)

pub all_from_held : (P : Mark → Type 0) (xs : List Mark) → ((m : Mark) → holds xs m ≡ true → P m) → All P xs
all_from_held P xs each = λ k d lt. each (get_or xs k d) (holds_among xs (get_or xs k d) (among_place xs k d lt))
  where
    among_place : (xs : List Mark) (k : ℕ) (d : Mark) → k < length xs → Among (get_or xs k d) xs
    among_place [] k d lt = absurd (omega (arith, lt))
    among_place (x ∷ xs) zero d lt = inl refl
    among_place (x ∷ xs) (suc k) d lt = inr (among_place xs k d (omega (arith, lt)))

-- no two places have the same mark
pub once_from : (xs : List Mark) → IsAscending xs → AllPairs (λ a b. a ≢ b) xs
once_from xs ascending = λ i j d lt inside e.
    not_below (get_or xs i d) (ap (mark_cmp (get_or xs i d)) e ∙ ascending i j d lt inside)
