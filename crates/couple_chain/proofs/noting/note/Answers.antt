use Rattle.std.proofs.Common.{◌++◌, ℕ, List, ap, ◌∙◌, arith}
use Rattle.couple_chain.specs.Relays.{event_with}
use Rattle.couple_chain.proofs.Bounds.{at_most}
use Rattle.couple_chain.proofs.Grown.{then_passed, then_given, else_passed, else_given}
use Rattle.couple_chain.proofs.noting.note.Goals as goal

pub overflow_add-count : goal.overflow_add-count
overflow_add-count c =
    let few = at_most c.args.before.now.sections c.count_of-count.ensures.kept in
    let is = c.count_of-count.ensures.value in
    omega arith

pub returns-in_ok-give-clause-passed : goal.returns-in_ok-give-clause-passed
returns-in_ok-give-clause-passed c = λ way is.
    c.forget.ensures
    ∙ then_passed c.args.before.now.sections c.args.after.now.sections
    (event_with c.args.origin c.args.message.now way) c.own_at-near.result c.own_at-far.result c.count_of-count.result
    c.count_of-count.ensures.kept is c.count_of-count.ensures.value
    (let b = c.count_of.ensures.value in let d = c.if-count-count_of.true in omega arith) c.own_at-near.ensures c.own_at-far.ensures
    c.args.passed.now.items

pub returns-in_ok-give-clause-given : goal.returns-in_ok-give-clause-given
returns-in_ok-give-clause-given c = λ way is.
    c.in_ok-give.ensures.ok
    ∙ ap (λ (n : List ℕ). c.args.given.now.items ++ n)
    (then_given c.args.before.now.sections c.args.after.now.sections
    (event_with c.args.origin c.args.message.now way) c.own_at-near.result c.own_at-far.result c.count_of-count.result
    c.count_of-count.ensures.kept is c.count_of-count.ensures.value
    (let b = c.count_of.ensures.value in let d = c.if-count-count_of.true in omega arith) c.own_at-near.ensures c.own_at-far.ensures)

pub returns-in_ok-log-clause-passed : goal.returns-in_ok-log-clause-passed
returns-in_ok-log-clause-passed c = λ way is.
    c.in_ok-log.ensures.ok
    ∙ else_passed c.args.before.now.sections c.args.after.now.sections
    (event_with c.args.origin c.args.message.now way) c.count_of-count.result c.count_of-count.ensures.kept is
    c.count_of-count.ensures.value
    (let b = c.count_of.ensures.value in let d = c.if-count-count_of.false in omega arith) c.args.passed.now.items

pub returns-in_ok-log-clause-given : goal.returns-in_ok-log-clause-given
returns-in_ok-log-clause-given c = λ way is.
    else_given c.args.before.now.sections c.args.after.now.sections
    (event_with c.args.origin c.args.message.now way) c.count_of-count.result c.count_of-count.ensures.kept is
    c.count_of-count.ensures.value
    (let b = c.count_of.ensures.value in let d = c.if-count-count_of.false in omega arith) c.args.given.now.items
