-- whether two plans have the same relays
use Rattle.std.specs.Prelude.{ℕ, ◌≡◌, ◌<◌, ◌&&◌, ◌==◌, Bool, true, IsTrue, ◌↔◌, nat_eq, List, [], ◌∷◌, map, length, get_or, refl}
use Rattle.std.specs.Cmp.Lexicographic.{pointwise, nat_list_eq_equiv, same_text}
use Rattle.std.proofs.Common.{zero, suc, sym, ◌∙◌, ap, subst, arith}
use Rattle.std.proofs.lemmas.Bool.{eq-eqb, eqb-true, and_parts}
use Rattle.sccp_base.proofs.Among.{same_bool}
use Rattle.plan_model.specs.declared.node.Node.{Node}
use Rattle.plan_model.specs.Network.{Network}
use Rattle.plan_model.specs.SameNodes.{without_rows, same_node, same_nodes}

-- lists with the same images have the same image at each place
pub one_by_one : {X Y : Type 0} (f : X → Y) (xs ys : List X) (i : ℕ) (x y : X) → i < length xs → x ≡ get_or xs i x → y ≡ get_or ys i y
    → map f xs ≡ map f ys → f x ≡ f y
one_by_one f [] ys i x y lt at there same = absurd (omega arith)
one_by_one f (u ∷ us) [] i x y lt at there same = absurd (cc)
one_by_one f (u ∷ us) (v ∷ vs) zero x y lt at there same = ap f at ∙ (let h : f u ≡ f v = cc in h) ∙ sym (ap f there)
one_by_one {X} {Y} f (u ∷ us) (v ∷ vs) (suc i) x y lt at there same = one_by_one f us vs i x y (omega arith) at there (ap tail same)
  where
    tail : List Y → List Y
    tail [] = []
    tail (z ∷ zs) = zs

same_list : (xs ys : List ℕ) → xs ≡ ys → pointwise nat_eq xs ys ≡ true
same_list xs ys e = subst (λ (zs : List ℕ). pointwise nat_eq xs zs ≡ true) e (nat_list_eq_equiv.refl xs)

all_true : (a b c d : Bool) → a ≡ true → b ≡ true → c ≡ true → d ≡ true → (a && (b && (c && d))) ≡ true
all_true a b c d h i j k = rw h (rw i (rw j k))

-- relays that are the same pass the test of two relays
alike_told : (a b : Node) → without_rows a ≡ without_rows b → same_node a b ≡ true
alike_told a b e =
    all_true (pointwise nat_eq a.name b.name) (a.pc == b.pc) (pointwise nat_eq a.subsystems b.subsystems)
    (pointwise nat_eq a.concerned b.concerned)
    (same_list a.name b.name (ap (λ (w : List ℕ × ℕ × List ℕ × List ℕ). w.0) e))
    (eq-eqb a.pc b.pc (ap (λ (w : List ℕ × ℕ × List ℕ × List ℕ). w.1) e))
    (same_list a.subsystems b.subsystems (ap (λ (w : List ℕ × ℕ × List ℕ × List ℕ). w.2) e))
    (same_list a.concerned b.concerned (ap (λ (w : List ℕ × ℕ × List ℕ × List ℕ). w.3) e))

abbrev four : List ℕ → ℕ → List ℕ → List ℕ → List ℕ × ℕ × List ℕ × List ℕ
four name pc subsystems concerned = (name, pc, subsystems, concerned)

four_same : (p q : List ℕ) (m n : ℕ) (s t u v : List ℕ) → p ≡ q → m ≡ n → s ≡ t → u ≡ v → four p m s u ≡ four q n t v
four_same p q m n s t u v h i j k = rw h (rw i (rw j (rw k refl)))

told_alike : (a b : Node) → same_node a b ≡ true → without_rows a ≡ without_rows b
told_alike a b h =
    let name = and_parts (pointwise nat_eq a.name b.name) (a.pc == b.pc
    && (pointwise nat_eq a.subsystems b.subsystems && pointwise nat_eq a.concerned b.concerned)) h in
    let point = and_parts (a.pc == b.pc) (pointwise nat_eq a.subsystems b.subsystems && pointwise nat_eq a.concerned b.concerned) name.1 in
    let lists = and_parts (pointwise nat_eq a.subsystems b.subsystems) (pointwise nat_eq a.concerned b.concerned) point.1 in
    four_same a.name b.name a.pc b.pc a.subsystems b.subsystems a.concerned b.concerned (same_text a.name b.name (sym name.0))
    (eqb-true a.pc b.pc point.0) (same_text a.subsystems b.subsystems (sym lists.0)) (same_text a.concerned b.concerned (sym lists.1))

-- lists of relays that are the same pass the test of all of them
all_told : (xs ys : List Node) → map without_rows xs ≡ map without_rows ys → pointwise same_node xs ys ≡ true
all_told [] [] e = refl
all_told [] (y ∷ ys) e = absurd (cc)
all_told (x ∷ xs) [] e = absurd (cc)
all_told (x ∷ xs) (y ∷ ys) e =
    rw (alike_told x y (let h : without_rows x ≡ without_rows y = cc in h))
    (all_told xs ys (let h : map without_rows xs ≡ map without_rows ys = cc in h))

told_all : (xs ys : List Node) → pointwise same_node xs ys ≡ true → map without_rows xs ≡ map without_rows ys
told_all [] [] h = refl
told_all [] (y ∷ ys) h = absurd (cc)
told_all (x ∷ xs) [] h = absurd (cc)
told_all (x ∷ xs) (y ∷ ys) h =
    let parts = and_parts (same_node x y) (pointwise same_node xs ys) h in
    let first : without_rows x ≡ without_rows y = told_alike x y parts.0 in
    let rest : map without_rows xs ≡ map without_rows ys = told_all xs ys parts.1 in
    cc

pub same_nodes_told : (old new : Network) (xs ys : List Node) (r : Bool) → xs ≡ old.nodes → ys ≡ new.nodes
    → (IsTrue r ↔ (map without_rows xs ≡ map without_rows ys)) → r ≡ same_nodes old new
same_nodes_told old new xs ys r e f h =
    subst (λ (zs : List Node). r ≡ pointwise same_node old.nodes zs) f (subst (λ (zs : List Node). r ≡ pointwise same_node zs ys) e
    (same_bool r (pointwise same_node xs ys) (λ t. all_told xs ys (h.0 t)) (λ t. h.1 (told_all xs ys t))))
