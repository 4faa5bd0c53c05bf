use Rattle.std.proofs.Common.{◌≡◌, true, false, List, rules, subst, take_all}
use Rattle.std.specs.List.{All}
use Rattle.relay_watch.specs.Whys.{IsNoAnswered}
use Rattle.relay_watch.specs.declared.answered.Answered.{Answered}
use Rattle.relay_watch.proofs.Reasoned.{is_nothing, is_something}
use Rattle.relay_watch.proofs.WhyLemmas.{again_found, again_passed}
use Rattle.relay_watch.proofs.whys.again.Goals as goal

pub returns-then-not-is_empty : goal.returns-then-not-is_empty
returns-then-not-is_empty c =
    let some : c.is_empty.result ≡ false = search rules in
    again_found c.args.sent.now.plan.now c.args.answered.now c.args.sent.now.node c.args.sent.now.to c.args.sent.now.message.now
    c.loop-one.one-index c.in_ok-ways.ways
    c.one-item.result c.loop-one-test.true c.one-item.is c.loop-one.invariant
    (is_something c.is_empty.result c.in_ok-ways.ways c.as_slice.result.now c.is_empty.ensures c.as_slice.ensures some)
    c.in_ok-ways.ensures

pub loop-one-preserved : goal.loop-one-preserved
loop-one-preserved c =
    let none : c.is_empty.result ≡ true = search rules in
    again_passed c.args.sent.now.plan.now c.args.answered.now c.args.sent.now.node c.args.sent.now.to c.args.sent.now.message.now
    c.loop-one.one-index c.in_ok-ways.ways
    c.one-item.result c.loop-one-test.true c.one-item.is c.loop-one.invariant
    (is_nothing c.is_empty.result c.in_ok-ways.ways c.as_slice.result.now c.is_empty.ensures c.as_slice.ensures none)
    c.in_ok-ways.ensures

pub returns : goal.returns
returns c =
    subst (λ (xs : List Answered). All
    (IsNoAnswered c.args.sent.now.plan.now c.args.sent.now.node c.args.sent.now.to c.args.sent.now.message.now) xs)
    (take_all c.loop-one.one-index c.args.answered.now c.loop-one-test.false) c.loop-one.invariant
