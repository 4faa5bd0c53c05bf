use Rattle.std.proofs.Common.{subst}
use Rattle.std.specs.Prelude.{IfOk}
use Rattle.relay_watch.specs.Judging.{IsJudged}
use Rattle.relay_watch.specs.Keepings.{kept_in}
use Rattle.relay_watch.specs.Kept.{Kept}
use Rattle.relay_watch.proofs.Watched.{judged_of}
use Rattle.relay_watch.proofs.watch.Watch.judge.Goals as goal

pub returns-clause-judged : goal.returns-clause-judged
returns-clause-judged c =
    subst (λ (k : Kept). IfOk c.step.result
    (λ line. IsJudged c.args.plan.now k.waiting c.args.event.now line c.step.new.kept.waiting.items))
    c.self.view_is
    (judged_of c.step.result c.args.plan.now (kept_in c.self.inside.kept) c.args.event.now (kept_in c.step.new.kept) c.step.ensures.watched)
