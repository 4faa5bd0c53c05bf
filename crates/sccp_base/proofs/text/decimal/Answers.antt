use Rattle.std.proofs.Common.{◌≤◌, ◌<◌, ◌+◌, ◌-◌, ◌^◌, ◌≡◌, ℕ, zero, suc, arith, subst}
use Rattle.std.proofs.Math.Nat.{pow-suc}
use Rattle.sccp_base.proofs.text.decimal.Goals as goal

power_grows : (k i : ℕ) → 10 ^ i ≤ 10 ^ (k + i)
power_grows zero i = let e : zero + i ≡ i = omega arith in rw e (omega arith)
power_grows (suc k) i = let e : suc k + i ≡ suc (k + i) = omega arith in rw (e, pow-suc 10 (k + i)) (omega (arith, power_grows k i))

eighteen_digits : (n i : ℕ) → n < 10 ^ i → i ≤ 18 → n < 1000000000000000000
eighteen_digits n i small le =
    let e : (18 - i) + i ≡ 18 = omega arith in
    let most : 10 ^ i ≤ 10 ^ 18 = subst (λ (k : ℕ). 10 ^ i ≤ 10 ^ k) e (power_grows (18 - i) i) in
    omega arith

pub overflow_mul-value : goal.overflow_mul-value
overflow_mul-value c = omega (arith, eighteen_digits c.loop-octet.value c.loop-octet.octet-index c.loop-octet.invariant.small (omega arith))

pub overflow_add-value : goal.overflow_add-value
overflow_add-value c = omega (arith, eighteen_digits c.loop-octet.value c.loop-octet.octet-index c.loop-octet.invariant.small (omega arith))
