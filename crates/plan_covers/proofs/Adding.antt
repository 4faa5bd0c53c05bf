-- whether a cover adds nothing to another one can be decided, and adding nothing goes on from cover to cover
use Rattle.std.specs.Prelude.{ℕ, ◌≡◌, ◌<◌, ◌≤◌, ◌⊎◌, ◌==◌, Bool, true, false, nat_eq, IsTrue, ◌↔◌, List, [], ◌∷◌, get_or, refl}
use Rattle.std.specs.List.{All, Contains, starts_with}
use Rattle.std.proofs.Common.{sym, ◌∙◌, ap, subst, inl, inr, ⊎_elim, arith}
use Rattle.std.proofs.lemmas.Bool.{cases_lt, cases_Bool, eqb-true, eq-eqb, false≢true}
use Rattle.sccp_base.specs.Selector.{Numbers}
use Rattle.std.proofs.lemmas.List.Elements.{All-contains, Contains-get_or}
use Rattle.sccp_base.proofs.Among.{Among, Among-get_or, place_of_Among}
use Rattle.plan_model.specs.declared.cover.Cover.{Cover}
use Rattle.plan_covers.specs.Needless.{fewest, IsWithin, AddsNothing}

-- a proposition that holds or does not
abbrev pub Decision : Type 0 → Type 0
Decision P = P ⊎ (P → ⊥)

abbrev both : (P Q : Type 0) → Decision P → Decision Q → Decision (P × Q)
both P Q (inl p) (inl q) = inl (p, q)
both P Q (inl p) (inr n) = inr (λ h. n h.1)
both P Q (inr n) d = inr (λ h. n h.0)

carried : (P Q : Type 0) → (P → Q) → (Q → P) → Decision P → Decision Q
carried P Q f g (inl p) = inl (f p)
carried P Q f g (inr n) = inr (λ q. n (g q))

pub equal : (m n : ℕ) → Decision (m ≡ n)
equal m n =
    ⊎_elim (λ (h : (m == n) ≡ true). inl (eqb-true m n h)) (λ (h : (m == n) ≡ false). inr (λ e. false≢true (sym h ∙ eq-eqb m n e)))
    (cases_Bool (m == n))

up_to : (m n : ℕ) → Decision (m ≤ n)
up_to m n = ⊎_elim (λ (h : n < m). inr (λ le. omega (arith, h, le))) (λ (h : m ≤ n). inl h) (cases_lt n m)

is_true : (b : Bool) → Decision (IsTrue b)
is_true true = inl refl
is_true false = inr (λ e. false≢true e)

equal_selectors : (a b : Numbers) → Decision (a ≡ b)
equal_selectors a b =
    carried _ _
    (λ (h : (a.kind ≡ b.kind) × ((a.translation ≡ b.translation) × ((a.plan ≡ b.plan) × (a.nature ≡ b.nature)))). λ i. record {
      kind = h.0 i;
      translation = h.1.0 i;
      plan = h.1.1.0 i;
      nature = h.1.1.1 i;
    })
    (λ e. (
      ap (λ (s : Numbers). s.kind) e,
      (
        ap (λ (s : Numbers). s.translation) e,
        (
          ap (λ (s : Numbers). s.plan) e,
          ap (λ (s : Numbers). s.nature) e,
        ),
      ),
    ))
    (both _ _ (equal a.kind b.kind) (both _ _ (equal a.translation b.translation)
    (both _ _ (equal a.plan b.plan) (equal a.nature b.nature))))

within_or_not : (a b : Cover) → Decision (IsWithin a b)
within_or_not a b =
    carried _ _
    (λ (h : (a.node ≡ b.node) × ((a.selector ≡ b.selector) × ((a.ssn ≡ b.ssn) × ((IsTrue (starts_with nat_eq a.prefix b.prefix))
    × ((b.least ≤ fewest a) × (a.most ≤ b.most)))))). record {
      node = h.0;
      selector = h.1.0;
      ssn = h.1.1.0;
      prefix = h.1.1.1.0;
      least = h.1.1.1.1.0;
      most = h.1.1.1.1.1;
    })
    (λ w. (w.node, (w.selector, (w.ssn, (w.prefix, (w.least, w.most))))))
    (both _ _ (equal a.node b.node) (both _ _ (equal_selectors a.selector b.selector) (both _ _ (equal a.ssn b.ssn)
    (both _ _ (is_true (starts_with nat_eq a.prefix b.prefix)) (both _ _ (up_to b.least (fewest a)) (up_to a.most b.most))))))

equal_places : (p q : ℕ × ℕ) → Decision (p ≡ q)
equal_places p q =
    carried _ _ (λ (h : (p.0 ≡ q.0) × (p.1 ≡ q.1)). λ i. (h.0 i, h.1 i))
    (λ e. (ap (λ (x : ℕ × ℕ). x.0) e, ap (λ (x : ℕ × ℕ). x.1) e)) (both _ _ (equal p.0 q.0) (equal p.1 q.1))

among_or_not : (p : ℕ × ℕ) (xs : List (ℕ × ℕ)) → Decision (Among p xs)
among_or_not p [] = inr (λ h. h)
among_or_not p (x ∷ xs) =
    elim (equal_places x p) as (λ _. Decision (Among p (x ∷ xs))) [
      | inl e ↦ inl (inl e)
      | inr n ↦ carried _ _ (λ h. inr h) (λ h. ⊎_elim (λ (e : x ≡ p). absurd (n e)) (λ (k : Among p xs). k) h) (among_or_not p xs)
    ]

-- each of some places is among others
all_among : (xs ys : List (ℕ × ℕ)) → Decision ((p : ℕ × ℕ) → Among p xs → Among p ys)
all_among [] ys = inl (λ p h. absurd h)
all_among (x ∷ xs) ys =
    carried _ _
    (λ (h : Among x ys × ((p : ℕ × ℕ) → Among p xs → Among p ys)). λ p among. ⊎_elim (λ (e : x ≡ p). subst (λ q. Among q ys) e h.0)
    (λ (k : Among p xs). h.1 p k) among)
    (λ f. (f x (inl refl), λ p k. f p (inr k)))
    (both _ _ (among_or_not x ys) (all_among xs ys))

pub contains_among : {X : Type 0} (xs : List X) (x : X) → Contains xs x → Among x xs
contains_among xs x h = subst (λ y. Among y xs) h.2 (Among-get_or xs h.0 x h.1)

pub among_contains : {X : Type 0} (xs : List X) (x : X) → Among x xs → Contains xs x
among_contains xs x h = let k = place_of_Among x xs h in (k.0, k.1, k.2 x)

pub adds_or_not : (a b : Cover) → AddsNothing a b ⊎ (AddsNothing a b → ⊥)
adds_or_not a b =
    carried _ _
    (λ (h : IsWithin a b × ((p : ℕ × ℕ) → Among p b.allowed → Among p a.allowed)). record {
      within = h.0;
      allowed = λ p k. among_contains a.allowed p (h.1 p (contains_among b.allowed p k));
    })
    (λ w. (w.within, λ p k. contains_among a.allowed p (w.allowed p (among_contains b.allowed p k))))
    (both _ _ (within_or_not a b) (all_among b.allowed a.allowed))

-- the two tests of a cover against another one
pub adds_told : (a b : Cover) (found : Bool) (xs : List (ℕ × ℕ)) → IsWithin a b → xs ≡ b.allowed
    → (IsTrue found ↔ All (λ p. Contains a.allowed p) xs) → IsTrue found ↔ AddsNothing a b
adds_told a b found xs within from told = (
  λ t. record {
    within = within;
    allowed = λ p h. All-contains (λ p. Contains a.allowed p) xs p (told.0 t) (subst (λ (zs : List (ℕ × ℕ)). Contains zs p) (sym from) h);
  },
  λ h. told.1 (λ k d lt. h.allowed (get_or xs k d)
      (subst (λ (zs : List (ℕ × ℕ)). Contains zs (get_or xs k d)) from (Contains-get_or xs k d lt))),
)
