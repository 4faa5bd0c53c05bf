use Rattle.std.proofs.Common.{ℕ, ◌≡◌, subst, arith}
use Rattle.plan_unused.specs.Walks.{IsWalk}
use Rattle.plan_unused.proofs.Walked.{whole_from}
use Rattle.plan_unused.proofs.walking.walk.Goals as goal

pub loop-depth-init : goal.loop-depth-init
loop-depth-init c = c.in_ok-met.ensures.walk c.new-seen.result (c.new-seen.ensures c.args.plan.now)

pub returns-clause-seen : goal.returns-clause-seen
returns-clause-seen c = c.loop-depth.invariant.sound

pub returns-clause-whole : goal.returns-clause-whole
returns-clause-whole c =
    let last : c.loop-depth.depth ≡ 14 = omega (arith, c.loop-depth-test.false) in
    whole_from c.args.plan.now c.loop-depth.met c.loop-depth.seen c.loop-depth.first c.in_ok-met.ensures.sound
    (subst (λ (n : ℕ). IsWalk c.args.plan.now n c.loop-depth.first c.loop-depth.met c.loop-depth.seen) last c.loop-depth.invariant)
