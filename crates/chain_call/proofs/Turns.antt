-- The turns of a run until no link holds a message.
use Rattle.std.proofs.Common.{◌≡◌, ℕ, zero, suc, ◌≤◌, Option, Some, None, refl, sym, ◌∙◌, ap, arith}
use Rattle.std.specs.Prelude.{Bool, true, false, cond}
use Rattle.chain_call.specs.Course.{Course}
use Rattle.chain_call.specs.Steps.{delivered, is_spent, next_of, turn, settled_in}

-- no turn is left: there is no result
pub is_over : (n : ℕ) (c : Course) → n ≡ 0 → settled_in n c ≡ None
is_over zero c e = refl
is_over (suc n) c e = absurd (omega (arith, e))

-- no link is to deliver: it is settled
pub is_done : (n : ℕ) (c : Course) → 1 ≤ n → next_of c ≡ None → settled_in n c ≡ Some c
is_done zero c some e = absurd (omega (arith, some))
is_done (suc n) c some e = ap (λ (o : Option (ℕ × ℕ)). turn (λ after. settled_in n after) o c) e

-- a link is to deliver and no delivery is left: there is no result
pub gives_up : (n : ℕ) (c : Course) (l : ℕ × ℕ) → 1 ≤ n → next_of c ≡ Some l → is_spent c ≡ true → settled_in n c ≡ None
gives_up zero c l some e spent = absurd (omega (arith, some))
gives_up (suc n) c l some e spent =
    ap (λ (o : Option (ℕ × ℕ)). turn (λ after. settled_in n after) o c) e
    ∙ ap (λ (b : Bool). cond b None (settled_in n (delivered l.0 l.1 c))) spent

-- a link delivers: the turns that are left go on from there
pub goes_on : (n m : ℕ) (c after : Course) (l : ℕ × ℕ) → n ≡ suc m → next_of c ≡ Some l → is_spent c ≡ false → after ≡ delivered l.0 l.1 c
    → settled_in m after ≡ settled_in n c
goes_on zero m c after l e held left is = absurd (omega (arith, e))
goes_on (suc n) m c after l e held left is =
    let same : m ≡ n = omega (arith, e) in
    ap (λ (k : ℕ). settled_in k after) same
    ∙ ap (λ (d : Course). settled_in n d) is
    ∙ ap (λ (b : Bool). cond b None (settled_in n (delivered l.0 l.1 c))) (sym left)
    ∙ ap (λ (o : Option (ℕ × ℕ)). turn (λ d. settled_in n d) o c) (sym held)
