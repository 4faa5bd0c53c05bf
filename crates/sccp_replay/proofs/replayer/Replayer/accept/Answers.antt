use Rattle.sccp_replay.proofs.ReplayerLemmas.{comes_or_not}
use Rattle.sccp_replay.proofs.replayer.Replayer.accept.Goals as goal

pub returns-clause-plans : goal.returns-clause-plans
returns-clause-plans c =
    comes_or_not c.push.result c.args.self.now c.args.coming.now c.push.new.self c.args.plan c.requires.plans
    c.plan-plan.ensures.verified.plan c.requires.same c.push.ensures.ok
