use Rattle.plan_verify.proofs.Tracing.{sent_before}
use Rattle.plan_verify.proofs.trace.carry.Goals as goal

pub returns : goal.returns
returns c =
    sent_before c.args.plan.now c.args.class.now c.args.place c.args.behind _ c.in_ok-marking.marking c.carry_back.ensures.member
    c.in_ok-in_front.ensures c.in_ok-marking.ensures.takes c.carry_back.ensures.leads
