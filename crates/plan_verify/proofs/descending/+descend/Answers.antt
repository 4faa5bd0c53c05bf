use Rattle.std.proofs.Common.{◌≡◌, ◌≤◌, ◌∙◌, [], ◌∷◌, ℕ, sym, subst, refl, arith, rules}
use Rattle.std.proofs.lemmas.Bool.{false≢true}
use Rattle.plan_classes.specs.Titles.{IsMember}
use Rattle.plan_verify.specs.declared.trace.Trace.{Trace}
use Rattle.plan_verify.specs.Traces.{IsWay}
use Rattle.plan_verify.proofs.Ranking.{high_part, high_next}
use Rattle.plan_check.proofs.Soundness.{ok_both}
use Rattle.plan_verify.proofs.Tracing.{way_one}
use Rattle.plan_verify.proofs.descending.+descend.Goals as goal

pub returns-then-hops-eq1 : goal.returns-then-hops-eq1
returns-then-hops-eq1 t c =
    let one : c.args.hops ≡ 1 = omega (arith, c.if-hops-eq1.true) in
    ok_both c.least_title.result (λ (w : Trace). IsMember c.args.class.now w.digits) (λ (w : Trace). w.markings ≡ [] ∷ [])
    (IsWay c.args.plan.now c.args.class.now c.args.hops)
    (λ w member under. subst (λ (n : ℕ). IsWay c.args.plan.now c.args.class.now n w) (sym one)
    (way_one c.args.plan.now c.args.class.now w w.digits [] refl under member))
    c.least_title.ensures.member c.least_title.ensures.markings

pub high_target-place-requires-clause-some : goal.high_target-place-requires-clause-some
high_target-place-requires-clause-some t c =
    high_next c.args.plan.now c.args.ranks.now c.args.class.now c.args.hops c.requires.sound c.requires.ranked
    (omega (arith, c.requires.some, c.if-hops-eq1.false)) (c.decided.ensures.decided.0 c.if-decided.true)

pub descend-requires : goal.descend-requires
descend-requires t c =
    let two : 2 ≤ c.args.hops = omega (arith, c.requires.some, c.if-hops-eq1.false) in
    let most : c.high_target-place.result.1.most ≡ c.args.class.now.most = c.high_target-place.ensures.most in
    (search rules, (omega (arith, two), (c.high_target-place.ensures.high, c.requires.sound)))

pub high_part-part-requires : goal.high_part-part-requires
high_part-part-requires t c =
    high_part c.args.plan.now c.args.ranks.now c.args.class.now c.args.hops c.as_slice.result.now c.requires.sound c.requires.ranked
    (omega (arith, c.requires.some, c.if-hops-eq1.false))
    (λ decided. false≢true (sym c.if-decided.false ∙ c.decided.ensures.decided.1 decided)) (c.as_slice.ensures
    ∙ c.in_ok-parts.ensures.value)
