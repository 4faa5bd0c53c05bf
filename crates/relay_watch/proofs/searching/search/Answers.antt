use Rattle.std.proofs.Common.{◌≡◌, true, false, List, rules, refl, subst, take_all}
use Rattle.std.specs.List.{All}
use Rattle.relay_watch.specs.Reasons.{IsNoReason}
use Rattle.relay_watch.specs.declared.waiting.Waiting.{Waiting}
use Rattle.relay_watch.proofs.Reasoned.{first_found, one_passed, is_nothing, is_something}
use Rattle.relay_watch.proofs.searching.search.Goals as goal

pub returns-then-not-is_empty : goal.returns-then-not-is_empty
returns-then-not-is_empty c =
    let some : c.is_empty.result ≡ false = search rules in
    first_found c.args.sent.now.plan.now c.args.waiting.now c.args.sent.now.node c.args.sent.now.to c.args.sent.now.message.now
    c.loop-place.place
    c.index-waiting-place.result.number c.in_ok-ways.ways c.index-waiting-place.result c.loop-place-test.true c.index-waiting-place.is refl
    c.loop-place.invariant
    (is_something c.is_empty.result c.in_ok-ways.ways c.as_slice.result.now c.is_empty.ensures c.as_slice.ensures some)
    c.in_ok-ways.ensures

pub loop-place-preserved : goal.loop-place-preserved
loop-place-preserved c =
    let none : c.is_empty.result ≡ true = search rules in
    one_passed c.args.sent.now.plan.now c.args.waiting.now c.args.sent.now.node c.args.sent.now.to c.args.sent.now.message.now
    c.loop-place.place c.in_ok-ways.ways
    c.index-waiting-place.result c.loop-place-test.true c.index-waiting-place.is c.loop-place.invariant
    (is_nothing c.is_empty.result c.in_ok-ways.ways c.as_slice.result.now c.is_empty.ensures c.as_slice.ensures none)
    c.in_ok-ways.ensures

pub returns : goal.returns
returns c =
    subst (λ (ws : List Waiting). All
    (IsNoReason c.args.sent.now.plan.now c.args.sent.now.node c.args.sent.now.to c.args.sent.now.message.now) ws)
    (take_all c.loop-place.place c.args.waiting.now c.loop-place-test.false) c.loop-place.invariant
