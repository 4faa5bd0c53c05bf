use Rattle.std.proofs.Common.{length, map, sym, subst}
use Rattle.live_plan.specs.Batches.{AreServed}
use Rattle.live_plan.specs.Blocks.{answer_under}
use Rattle.live_plan.specs.Tellers.{plans_of}
use Rattle.live_plan.proofs.Batched.{if_ok}
use Rattle.live_plan.proofs.Joined.{under_last}
use Rattle.live_plan.proofs.latest.serve_latest.Goals as goal

pub returns : goal.returns
returns g c =
    let plans = plans_of c.args.teller.now in
    let states = c.args.states.now in
    let jobs = c.args.jobs.now in
    let plan = c.latest.result.now in
    let served = under_last plans plan states jobs c.args.workers c.latest.ensures in
    if_ok _ (AreServed plans states jobs c.args.workers (length plans)) c.serve_blocks.result
    (λ answers is. subst (AreServed plans states jobs c.args.workers (length plans)) (sym is)
    (subst (λ n. AreServed plans states jobs c.args.workers (length plans) (map (answer_under n plan states) jobs))
    (sym c.number.ensures) served)) c.serve_blocks.ensures
