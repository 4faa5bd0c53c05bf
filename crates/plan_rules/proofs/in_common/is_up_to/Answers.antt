use Rattle.std.proofs.Common.{sym, ◌∙◌}
use Rattle.plan_rules.proofs.UpTo.{up_to_ended, up_to_over, up_to_apart, up_to_tied}
use Rattle.plan_rules.proofs.in_common.is_up_to.Goals as goal

pub returns-then-i-b : goal.returns-then-i-b
returns-then-i-b c =
    sym (up_to_ended c.args.a.now c.args.b.now c.loop-i.i c.loop-i-test.true c.if-i-b.true) ∙ c.loop-i.invariant

pub returns-then-digit-b : goal.returns-then-digit-b
returns-then-digit-b c =
    sym (up_to_apart c.args.a.now c.args.b.now c.loop-i.i c.loop-i-test.true c.if-i-b.false c.if-digit-b.true) ∙ c.loop-i.invariant

pub loop-i-preserved : goal.loop-i-preserved
loop-i-preserved c =
    sym (up_to_tied c.args.a.now c.args.b.now c.loop-i.i c.loop-i-test.true c.if-i-b.false c.if-digit-b.false) ∙ c.loop-i.invariant

pub returns : goal.returns
returns c = sym (up_to_over c.args.a.now c.args.b.now c.loop-i.i c.loop-i-test.false) ∙ c.loop-i.invariant
