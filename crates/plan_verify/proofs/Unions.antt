-- what a marking that was made of others holds
use Rattle.std.specs.Prelude.{ℕ, ◌≡◌, ◌+◌, ◌<◌, Bool, true, false, ◌||◌, IsTrue, ◌↔◌, List, [], ◌∷◌, ◌++◌, length, take, get_or, refl}
use Rattle.std.specs.Cmp.Lexicographic.{pointwise}
use Rattle.std.proofs.Common.{sym, ◌∙◌, ap, subst}
use Rattle.std.proofs.lemmas.Bool.{and_parts, false≢true}
use Rattle.std.proofs.lemmas.Cmp.{lists_equiv}
use Rattle.std.proofs.lemmas.List.{take_more}
use Rattle.std.proofs.lemmas.List.Folds.{list_any-append}
use Rattle.sccp_base.specs.declared.mark.Mark.{Mark}
use Rattle.sccp_base.specs.Marks.{same_mark, holds}
use Rattle.sccp_base.specs.MarkOrder.{same_mark_equiv}
use Rattle.sccp_base.proofs.MarkPlaces.{same_mark_is}
use Rattle.plan_model.specs.declared.hop.Step.{Step}
use Rattle.plan_model.specs.declared.hop.Step.TheVariants.{Blocked}

or_turn : (a b c : Bool) → (a || (b || c)) ≡ (b || (c || (a || false)))
or_turn true true c = refl
or_turn true false true = refl
or_turn true false false = refl
or_turn false true c = refl
or_turn false false true = refl
or_turn false false false = refl

or_none : (a : Bool) → (a || false) ≡ a
or_none true = refl
or_none false = refl

front_more : {X : Type 0} (xs : List X) (i : ℕ) (x : X) → i < length xs → x ≡ get_or xs i x → take (i + 1) xs ≡ take i xs ++ x ∷ []
front_more xs i x lt at = take_more xs i x lt ∙ ap (λ y. take i xs ++ y ∷ []) (sym at)

pub nothing_held : (old : Bool) → old ≡ (old || false)
nothing_held old = sym (or_none old)

-- one more mark is prohibited
pub held_more : (marks : List Mark) (i : ℕ) (x m : Mark) (old : Bool) → i < length marks → x ≡ get_or marks i x
    → (same_mark x m || (old || holds (take i marks) m)) ≡ (old || holds (take (i + 1) marks) m)
held_more marks i x m old lt at =
    or_turn (same_mark x m) old (holds (take i marks) m)
    ∙ ap (λ (b : Bool). old || b) (sym (list_any-append (λ held. same_mark held m) (take i marks) (x ∷ [])))
    ∙ ap (λ (xs : List Mark). old || holds xs m) (sym (front_more marks i x lt at))

-- lists of marks that compare as equal are the same list
pub same_marks : (xs ys : List Mark) → pointwise same_mark xs ys ≡ true → xs ≡ ys
same_marks [] [] e = refl
same_marks [] (y ∷ ys) e = absurd (false≢true e)
same_marks (x ∷ xs) [] e = absurd (false≢true e)
same_marks (x ∷ xs) (y ∷ ys) e =
    let k = and_parts (same_mark x y) (pointwise same_mark xs ys) e in
    λ i. same_mark_is x y k.0 i ∷ same_marks xs ys k.1 i

pub own_marks : (xs : List Mark) → pointwise same_mark xs xs ≡ true
own_marks xs = (lists_equiv same_mark_equiv).refl xs

-- two blocked steps are the same if their causes and marks are
pub same_blocked : (cause code : ℕ) (xs ys : List Mark) (x y : Step) (found : Bool) → x ≡ Blocked cause xs → y ≡ Blocked code ys
    → cause ≡ code → found ≡ pointwise same_mark xs ys → IsTrue found ↔ (x ≡ y)
same_blocked cause code xs ys x y found ex ey same told = (
  λ t. ex ∙ ((λ i. Blocked (same i) (same_marks xs ys (sym told ∙ t) i)) ∙ sym ey),
  λ e.
      let f : Blocked cause xs ≡ Blocked code ys = sym ex ∙ (e ∙ ey) in
      let k : xs ≡ ys = cc in
      told ∙ subst (λ (zs : List Mark). pointwise same_mark xs zs ≡ true) k (own_marks xs),
)
