-- Plans of a list by their numbers.
use Rattle.std.proofs.Common.{Option, None, ◌≡◌, ◌⊎◌, inl, inr, ⊎_elim, ℕ, ◌+◌, ◌-◌, ◌<◌, ◌≤◌, zero, suc, List, [], ◌∷◌, ◌++◌, length, map}
use Rattle.std.proofs.Common.{take, slice_get, Some, refl, ap, sym, ◌∙◌, subst, get_or, arith}
use Rattle.std.proofs.lemmas.Option.{slice_get_within, slice_get-get_or}
use mathlib.Core.List.{IsPrefix}
use Rattle.plan_model.proofs.Cutting.{get_front}
use Rattle.plan_check.specs.Verified.{Verified}
use Rattle.live_plan.specs.Plans.{Extends, IsEnd, HasPlan, HaveNodes, nodes_of, pass_of}
use Rattle.live_plan.proofs.Prefixes.{prefix_get}

pub take_prefix : {A : Type 0} (xs : List A) (m n : ℕ) → m ≤ n → IsPrefix (take m xs) (take n xs)
take_prefix xs zero n le = (take n xs, refl)
take_prefix [] (suc m) zero le = absurd (omega arith)
take_prefix [] (suc m) (suc n) le = ([], refl)
take_prefix (x ∷ xs) (suc m) zero le = absurd (omega arith)
take_prefix (x ∷ xs) (suc m) (suc n) le = let rest = take_prefix xs m n (omega arith) in (rest.0, ap (λ ys. x ∷ ys) rest.1)

pub take_begins : {A : Type 0} (xs : List A) (n : ℕ) → IsPrefix (take n xs) xs
take_begins xs zero = (xs, refl)
take_begins [] (suc n) = ([], refl)
take_begins (x ∷ xs) (suc n) = let rest = take_begins xs n in (rest.0, ap (λ ys. x ∷ ys) rest.1)

pub take_length : {A : Type 0} (xs : List A) (n : ℕ) → n ≤ length xs → n ≡ length (take n xs)
take_length xs zero le = refl
take_length [] (suc n) le = absurd (omega arith)
take_length (x ∷ xs) (suc n) le = ap suc (take_length xs n (omega arith))

pub get_map : {A B : Type 0} (f : A → B) (xs : List A) (n : ℕ) (x : A) → slice_get xs n ≡ Some x → slice_get (map f xs) n ≡ Some (f x)
get_map f [] n x at = absurd cc
get_map f (y ∷ ys) zero x at = cc at
get_map f (y ∷ ys) (suc n) x at = get_map f ys n x at

pub get_here : {A : Type 0} (xs : List A) (n : ℕ) (x : A) → n < length xs → x ≡ get_or xs n x → slice_get xs n ≡ Some x
get_here xs n x lt at = slice_get-get_or xs n x lt ∙ ap Some (sym at)

pub has_within : (xs : List Verified) (n : ℕ) (x : Verified) → HasPlan xs n x → n ≤ length xs
has_within xs n x h = let lt = slice_get_within xs (n - 1) x h.1 in let some = h.0 in omega arith

pub has_more : (xs ys : List Verified) (n : ℕ) (x : Verified) → IsPrefix xs ys → HasPlan xs n x → HasPlan ys n x
has_more xs ys n x more h = (h.0, prefix_get xs ys (n - 1) x more h.1)

pub has_taken : (xs : List Verified) (n : ℕ) (x : Verified) → HasPlan xs n x → HasPlan (take n xs) n x
has_taken xs zero x h = let none = h.0 in absurd (omega arith)
has_taken xs (suc n) x h =
    let same : suc n - 1 ≡ n = omega arith in
    let at : slice_get xs n ≡ Some x = subst (λ k. slice_get xs k ≡ Some x) same h.1 in
    (h.0, subst (λ k. slice_get (take (suc n) xs) k ≡ Some x) (sym same) (get_front xs (suc n) n x (omega arith) at))

-- the pass as long as the number ends with the plan
pub has_end : (xs : List Verified) (n : ℕ) (x : Verified) → HasPlan xs n x → IsEnd n x (take n xs)
has_end xs n x h = (take_length xs n (has_within xs n x h), has_taken xs n x h)

pub has_nodes : (nodes : ℕ) (xs : List Verified) (n : ℕ) (x : Verified) → HaveNodes nodes xs → HasPlan xs n x → nodes_of x ≡ nodes
has_nodes nodes xs n x all h = all (n - 1) x h.1

-- what a list with one more item at the end has at each place
pub get_snoc : {A : Type 0} (xs : List A) (x : A) (i : ℕ) (y : A) → slice_get (xs ++ x ∷ []) i ≡ Some y
    → (slice_get xs i ≡ Some y) ⊎ ((i ≡ length xs) × (x ≡ y))
get_snoc [] x zero y at = inr (refl, cc at)
get_snoc [] x (suc i) y at = absurd cc
get_snoc (z ∷ zs) x zero y at = inl at
get_snoc (z ∷ zs) x (suc i) y at = ⊎_elim (λ h. inl h) (λ (t : (i ≡ length zs) × (x ≡ y)). inr (ap suc t.0, t.1)) (get_snoc zs x i y at)

pub get_behind : {A : Type 0} (xs rest : List A) (x : A) → slice_get (xs ++ x ∷ rest) (length xs) ≡ Some x
get_behind [] rest x = refl
get_behind (y ∷ ys) rest x = get_behind ys rest x

-- the plan after the first ones
has_behind : (xs rest : List Verified) (x : Verified) → HasPlan (xs ++ x ∷ rest) (length xs + 1) x
has_behind xs rest x =
    let same : length xs + 1 - 1 ≡ length xs = omega arith in
    (omega arith, subst (λ k. slice_get (xs ++ x ∷ rest) k ≡ Some x) (sym same) (get_behind xs rest x))

-- the first of the plans that are to be published
pub has_due : (due plans items rest : List Verified) (next : Verified) → due ≡ plans ++ items → items ≡ next ∷ rest
    → HasPlan due (length plans + 1) next
has_due due plans items rest next all here = subst (λ l. HasPlan l (length plans + 1) next) (sym (all ∙ ap (λ l. plans ++ l) here))
    (has_behind plans rest next)

pub get_append : {A : Type 0} (xs ys : List A) (i : ℕ) → i < length xs → slice_get (xs ++ ys) i ≡ slice_get xs i
get_append [] ys i lt = absurd (omega arith)
get_append (x ∷ xs) ys zero lt = refl
get_append (x ∷ xs) ys (suc i) lt = get_append xs ys i (omega arith)

pub have_one : (nodes : ℕ) (x : Verified) → nodes_of x ≡ nodes → HaveNodes nodes (x ∷ [])
have_one nodes x same zero plan at = let e : x ≡ plan = cc at in subst (λ (p : Verified). nodes_of p ≡ nodes) e same
have_one nodes x same (suc i) plan at = absurd cc

pub pass_extends : (plans : Option (List Verified)) (m n : ℕ) → m ≤ n → Extends (pass_of plans m) (pass_of plans n)
pass_extends None m n le = tt
pass_extends (Some plans) m n le = take_prefix plans m n le
