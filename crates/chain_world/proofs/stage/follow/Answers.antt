use Rattle.std.proofs.Common.{rules, ◌≡◌, ◌-◌, ◌+◌, ℕ, true, false, sym, ap, ◌∙◌, arith}
use Rattle.chain_world.specs.Staged.{stages_from}
use Rattle.chain_world.proofs.Follow.{begins_so, is_over, is_closed, ends_here, breaks_off, goes_further}
use Rattle.chain_world.proofs.Nodes.{at_place}
use Rattle.chain_world.proofs.stage.follow.Goals as goal

pub loop-turn-init : goal.loop-turn-init
loop-turn-init c =
    record {
      inside = c.requires.inside;
      whole = begins_so _ (stages_from c.args.plan.now c.args.relays.now (c.args.most - 0) c.args.first.now) c.new-path.ensures
          ∙ ap (λ (n : ℕ). stages_from c.args.plan.now c.args.relays.now n c.args.first.now) (omega arith);
    }

pub returns-then-not-is_open : goal.returns-then-not-is_open
returns-then-not-is_open c =
    let shut : c.is_open.result ≡ false = search rules in
    let lt = c.loop-turn-test.true in
    is_closed c.args.plan.now c.args.relays.now c.loop-turn.path (c.args.most - c.loop-turn._turn) c.loop-turn.stage (omega (arith, lt))
    (sym c.is_open.ensures ∙ shut) ∙ c.loop-turn.invariant.whole

pub returns-in_default : goal.returns-in_default
returns-in_default c =
    let stays : c.is_open.result ≡ true = search rules in
    let lt = c.loop-turn-test.true in
    ends_here c.args.plan.now c.args.relays.now c.loop-turn.path c.push.new.self (c.args.most - c.loop-turn._turn) c.loop-turn.stage
    (omega (arith, lt)) c.in_ok-push.ensures.ok (sym c.is_open.ensures ∙ stays) (sym c.node_behind.ensures ∙ c.in_default.is)
    ∙ c.loop-turn.invariant.whole

pub next_stage-requires-clause-inside : goal.next_stage-requires-clause-inside
next_stage-requires-clause-inside c = c.loop-turn.invariant.inside

pub returns-in_default-next_stage : goal.returns-in_default-next_stage
returns-in_default-next_stage c =
    let stays : c.is_open.result ≡ true = search rules in
    let lt = c.loop-turn-test.true in
    breaks_off c.args.plan.now c.args.relays.now c.loop-turn.path (c.args.most - c.loop-turn._turn) c.in-Some.node c.loop-turn.stage
    (omega (arith, lt)) (sym c.is_open.ensures ∙ stays) (sym c.node_behind.ensures ∙ c.in-Some.is)
    (sym c.next_stage.ensures.value ∙ c.in_default-next_stage.is)
    ∙ c.loop-turn.invariant.whole

pub loop-turn-preserved : goal.loop-turn-preserved
loop-turn-preserved c =
    let stays : c.is_open.result ≡ true = search rules in
    let lt = c.loop-turn-test.true in
    let at = at_place c.args.plan.now c.loop-turn.stage.far.point c.in-Some.node (sym c.node_behind.ensures ∙ c.in-Some.is) in
    record {
      inside = let a = at.within in let b = c.in-Some-next_stage.ensures.node in omega (arith, a, b);
      whole =
          goes_further c.args.plan.now c.args.relays.now c.loop-turn.path c.push.new.self (c.args.most - c.loop-turn._turn)
          (c.args.most - (c.loop-turn._turn + 1)) c.in-Some.node c.loop-turn.stage c.in-Some-next_stage.next (omega (arith, lt))
          (omega (arith, lt))
          c.in_ok-push.ensures.ok (sym c.is_open.ensures ∙ stays) (sym c.node_behind.ensures ∙ c.in-Some.is) (sym c.next_stage.ensures.value
          ∙ c.in-Some-next_stage.is)
          ∙ c.loop-turn.invariant.whole;
    }

pub returns : goal.returns
returns c =
    let le = c.loop-turn-test.false in
    is_over c.args.plan.now c.args.relays.now c.loop-turn.path (c.args.most - c.loop-turn._turn) c.loop-turn.stage (omega (arith, le))
    ∙ c.loop-turn.invariant.whole
