-- The order of links, by the first point and then the second.
use Rattle.std.specs.Prelude.{ℕ, ◌≡◌, ◌<◌, ◌≤◌, ◌==◌, ◌⊎◌, nat_lt, nat_le, Bool, true, false, ◌&&◌, ◌||◌, refl}
use Rattle.std.proofs.Common.{sym, ◌∙◌, ap, ⊎_elim, inl, inr, arith}
use Rattle.std.proofs.lemmas.Bool.{and_parts, cases_Bool, cases_eq, eqb-true, eq-eqb, ltb-true, ltb-false, leb-true, leb-false}
use Rattle.chain_world.specs.Running.{is_before}

-- the link `p` precedes the link from `a` to `b`, or is the same
abbrev pub Precedes : ℕ × ℕ → ℕ → ℕ → Type 0
Precedes p a b = (p.0 < a) ⊎ ((p.0 ≡ a) × (p.1 ≤ b))

-- if the test says so, the one precedes the other
pub precedes_by : (p : ℕ × ℕ) (a b : ℕ) → is_before p.0 p.1 a b ≡ true → Precedes p a b
precedes_by p a b h =
    elim (nat_lt p.0 a) as (λ c. nat_lt p.0 a ≡ c → (c || ((p.0 == a) && nat_le p.1 b)) ≡ true → Precedes p a b) [
      | true ↦ λ e k. inl (ltb-true p.0 a e)
      | false ↦ λ e k. let parts = and_parts (p.0 == a) (nat_le p.1 b) k in inr (eqb-true p.0 a parts.0, leb-true p.1 b parts.1)
    ] refl h

-- if the test denies it, the other precedes the one
pub precedes_not : (p : ℕ × ℕ) (a b : ℕ) → is_before p.0 p.1 a b ≡ false → Precedes (a, b) p.0 p.1
precedes_not p a b h =
    ⊎_elim
    (λ (less : nat_lt p.0 a ≡ true). absurd (true_not_false (sym (ap (λ (c : Bool). c || ((p.0 == a) && nat_le p.1 b)) less) ∙ h)))
    (λ (more : nat_lt p.0 a ≡ false).
    let le = ltb-false p.0 a more in
    ⊎_elim
    (λ (e : p.0 ≡ a). inr (
      sym e,
      second e (sym (ap (λ (c : Bool). c || ((p.0 == a) && nat_le p.1 b)) more
          ∙ ap (λ (c : Bool). c && nat_le p.1 b) (eq-eqb p.0 a e)) ∙ h),
    ))
    (λ (n : p.0 ≡ a → ⊥). inl (omega (arith, le, n)))
    (cases_eq p.0 a))
    (cases_Bool (nat_lt p.0 a))
  where
    true_not_false : true ≡ false → ⊥
    true_not_false z = cc

    second : p.0 ≡ a → nat_le p.1 b ≡ false → b ≤ p.1
    second e k = let lt = leb-false p.1 b k in omega (arith, lt)

-- the order is transitive
pub precedes_then : (p q : ℕ × ℕ) (a b : ℕ) → Precedes p q.0 q.1 → Precedes q a b → Precedes p a b
precedes_then p q a b (inl h) (inl k) = inl (omega (arith, h, k))
precedes_then p q a b (inl h) (inr k) = inl (let e = k.0 in omega (arith, h, e))
precedes_then p q a b (inr h) (inl k) = inl (let e = h.0 in omega (arith, e, k))
precedes_then p q a b (inr h) (inr k) = inr (h.0 ∙ k.0, let x = h.1 in let y = k.1 in omega (arith, x, y))

-- a link precedes itself
pub precedes_same : (a b : ℕ) → Precedes (a, b) a b
precedes_same a b = inr (refl, omega arith)
