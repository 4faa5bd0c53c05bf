use Rattle.std.proofs.Common.{ℕ, ◌∙◌, sym, subst, refl, take_all}
use Rattle.std.specs.List.{All, Contains}
use Rattle.std.proofs.lemmas.Bool.{false≢true}
use Rattle.std.proofs.lemmas.List.Elements.{All-more}
use Rattle.plan_covers.proofs.needless.allows_all.Goals as goal

pub returns-then-not-allows : goal.returns-then-not-allows
returns-then-not-allows c = (
  λ e. absurd (false≢true e),
  λ all. absurd (false≢true (sym c.if-not-allows.true ∙ c.allows.ensures.1
      (subst (λ (p : ℕ × ℕ). Contains c.args.cover.now.allowed p) (sym c.place-item.is)
      (all c.loop-place.place-index c.place-item.result c.loop-place-test.true)))),
)

pub loop-place-preserved : goal.loop-place-preserved
loop-place-preserved c =
    All-more (λ (p : ℕ × ℕ). Contains c.args.cover.now.allowed p) c.args.places.now c.loop-place.place-index c.place-item.result
    c.loop-place-test.true c.loop-place.invariant
    (subst (λ (p : ℕ × ℕ). Contains c.args.cover.now.allowed p) c.place-item.is (c.allows.ensures.0 c.if-not-allows.false))

pub returns : goal.returns
returns c = (
  λ _. subst (All (λ (p : ℕ × ℕ). Contains c.args.cover.now.allowed p))
      (take_all c.loop-place.place-index c.args.places.now c.loop-place-test.false)
      c.loop-place.invariant,
  λ _. refl,
)
