use Rattle.std.proofs.Common.{◌+◌, Bool, refl, ap, sym, ◌∙◌}
use Rattle.std.specs.Prelude.{◌&&◌, drop, not}
use Rattle.couple_chain.specs.Line.{no_repeat}
use Rattle.chain_world.proofs.Asked.{given_once, nothing_left}
use Rattle.chain_world.proofs.asking.no_repeat.Goals as goal

pub loop-place-init : goal.loop-place-init
loop-place-init c = refl

pub returns-then-is_given_again : goal.returns-then-is_given_again
returns-then-is_given_again c =
    sym
    (sym c.loop-place.invariant
    ∙ given_once c.args.given.now c.loop-place.place c.is_given_again.result c.loop-place-test.true c.is_given_again.ensures
    ∙ ap (λ (b : Bool). not b && no_repeat (drop (c.loop-place.place + 1) c.args.given.now)) c.if-is_given_again.true)

pub loop-place-preserved : goal.loop-place-preserved
loop-place-preserved c =
    sym
    (given_once c.args.given.now c.loop-place.place c.is_given_again.result c.loop-place-test.true c.is_given_again.ensures
    ∙ ap (λ (b : Bool). not b && no_repeat (drop (c.loop-place.place + 1) c.args.given.now)) c.if-is_given_again.false)
    ∙ c.loop-place.invariant

pub returns : goal.returns
returns c = sym (ap no_repeat (nothing_left c.args.given.now c.loop-place.place c.loop-place-test.false)) ∙ c.loop-place.invariant
