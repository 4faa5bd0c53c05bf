use Rattle.std.proofs.Common.{rules, ◌≡◌, ◌-◌, ◌+◌, true, false, refl, sym, ◌∙◌, arith}
use Rattle.chain_call.specs.Steps.{delivered, settled}
use Rattle.chain_call.proofs.Turns.{is_over, is_done, gives_up, goes_on}
use Rattle.chain_call.proofs.course.Course.settle.Goals as goal

pub loop-turn-init : goal.loop-turn-init
unfolding settled
loop-turn-init c = refl

pub returns-in_default : goal.returns-in_default
returns-in_default c =
    let lt = c.loop-turn-test.true in
    sym c.loop-turn.invariant ∙ is_done (18446744073709551615 - c.loop-turn._turn) c.loop-turn.self (omega (arith, lt)) (sym c.next.ensures
    ∙ c.in_default.is)

pub returns-then-is_spent : goal.returns-then-is_spent
returns-then-is_spent c =
    let lt = c.loop-turn-test.true in
    let spent : c.is_spent.result ≡ true = search rules in
    sym c.loop-turn.invariant ∙ gives_up (18446744073709551615 - c.loop-turn._turn) c.loop-turn.self (c.in-Some.from, c.in-Some.to)
    (omega (arith, lt)) (sym c.next.ensures ∙ c.in-Some.is) (sym c.is_spent.ensures ∙ spent)

pub loop-turn-preserved : goal.loop-turn-preserved
loop-turn-preserved c =
    let lt = c.loop-turn-test.true in
    let left : c.is_spent.result ≡ false = search rules in
    let gone : c.deliver.new.self ≡ delivered c.in-Some.from c.in-Some.to c.loop-turn.self = search rules in
    goes_on (18446744073709551615 - c.loop-turn._turn) (18446744073709551615 - (c.loop-turn._turn + 1)) c.loop-turn.self c.deliver.new.self
    (c.in-Some.from, c.in-Some.to) (omega (arith, lt)) (sym c.next.ensures ∙ c.in-Some.is)
    (sym c.is_spent.ensures ∙ left) gone
    ∙ c.loop-turn.invariant

pub returns : goal.returns
returns c =
    let le = c.loop-turn-test.false in
    sym c.loop-turn.invariant ∙ is_over (18446744073709551615 - c.loop-turn._turn) c.loop-turn.self (omega (arith, le))
