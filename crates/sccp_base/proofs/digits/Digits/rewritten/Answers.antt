use Rattle.std.proofs.Common.{ℕ, List, ◌≡◌, ◌≤◌, ◌++◌, [], length, drop, sym, ◌∙◌, ap, subst}
use Rattle.std.proofs.lemmas.List.{nil_from_length}
use Rattle.sccp_base.proofs.digits.Digits.rewritten.Goals as goal

pub returns-then-len-eq0 : goal.returns-then-len-eq0
returns-then-len-eq0 c =
    let none : c.args.put.now ≡ [] = nil_from_length c.args.put.now (sym c.len.ensures.value ∙ c.if-len-eq0.true) in
    let kept : c.args.self.now ≡ c.args.put.now ++ drop c.args.strip c.args.self.now =
    sym (ap (λ (n : ℕ). drop n c.args.self.now) c.if-strip-eq0.true)
    ∙ ap (λ (front : List ℕ). front ++ drop c.args.strip c.args.self.now) (sym none) in
    (subst (λ (ds : List ℕ). length ds ≤ 32) kept (subst (λ (n : ℕ). n ≤ 32) c.len-own.ensures.value c.len-own.ensures.limit), kept)
