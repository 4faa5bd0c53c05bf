use Rattle.std.proofs.Common.{◌≡◌, ◌<◌, ◌+◌, ◌≤◌, ◌∙◌, ℕ, nat_eq, true, length, drop, sym, ap, subst, arith}
use Rattle.std.specs.List.{All, starts_with}
use Rattle.std.proofs.lemmas.Bool.{false≢true}
use Rattle.plan_classes.proofs.Members.{member_begins, member_decimal, member_from}
use Rattle.plan_classes.proofs.class.Class.has.Goals as goal

pub returns-then-not-starts_with : goal.returns-then-not-starts_with
returns-then-not-starts_with c = (
  λ f. absurd (false≢true f),
  λ m. sym c.if-not-starts_with.true ∙ (c.starts_with.ensures
      ∙ (ap (starts_with nat_eq c.args.digits.now) c.known-known.ensures.value ∙ member_begins c.args.self.now c.args.digits.now m)),
)

pub returns : goal.returns
returns c =
    let begins : starts_with nat_eq c.args.digits.now c.args.self.now.known ≡ true =
    sym (ap (starts_with nat_eq c.args.digits.now) c.known-known.ensures.value)
    ∙ (sym c.starts_with.ensures ∙ c.if-not-starts_with.false) in
    let size = ap length c.known-known.ensures.value in
    let least : length c.args.self.now.known + c.args.self.now.least ≤ length c.args.digits.now =
    omega (arith, size, c.len.ensures.value, c.len-2.ensures.value, c.least.ensures.value, c.from.ensures, c.if-len-from.false) in
    let most : length c.args.digits.now ≤ length c.args.self.now.known + c.args.self.now.most =
    omega (arith, size, c.len-3.ensures.value, c.len-4.ensures.value, c.most.ensures.value, c.from-2.ensures, c.if-len-from-2.false) in (
      λ h. member_from c.args.self.now c.args.digits.now begins least most
          (subst (λ (n : ℕ). All (λ d. d < 10) (drop n c.args.digits.now)) (c.len-5.ensures.value ∙ size) (c.is_decimal_from.ensures.0 h)),
      λ m. c.is_decimal_from.ensures.1
          (subst (λ (n : ℕ). All (λ d. d < 10) (drop n c.args.digits.now)) (sym (c.len-5.ensures.value ∙ size))
          (member_decimal c.args.self.now c.args.digits.now m)),
    )
