use Rattle.std.proofs.Common.{List, sym, subst}
use Rattle.relay_ways.specs.declared.explanation.Explanation.{Explanation}
use Rattle.relay_watch.specs.Reasons.{AreReasons}
use Rattle.relay_watch.proofs.Repeated.{repeat_none}
use Rattle.relay_watch.proofs.searching.look.Goals as goal

pub returns-then-is_other : goal.returns-then-is_other
returns-then-is_other c =
    subst (λ (ways : List Explanation). AreReasons c.args.sent.now.plan.now c.args.sent.now.node c.args.sent.now.to
    c.args.sent.now.message.now c.args.arrival.now ways) (sym c.new.ensures) (c.is_other.ensures.other c.if-is_other.true)

pub returns-then-is_repeat : goal.returns-then-is_repeat
returns-then-is_repeat c =
    subst (λ (ways : List Explanation). AreReasons c.args.sent.now.plan.now c.args.sent.now.node c.args.sent.now.to
    c.args.sent.now.message.now c.args.arrival.now ways) (sym c.new-then-is_repeat.ensures)
    (repeat_none c.args.sent.now.plan.now c.args.sent.now.node c.args.sent.now.to c.args.sent.now.message.now c.args.earlier.now
    c.args.arrival.now (c.is_repeat.ensures c.if-is_repeat.true) c.requires.passed)
