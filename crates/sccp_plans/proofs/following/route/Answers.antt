use Rattle.std.proofs.Common.{Err}
use Rattle.std.proofs.lemmas.Result.{err_from_is_err_and}
use Rattle.sccp_work.specs.Moment.{Moment, moment}
use Rattle.sccp_plans.specs.Route.{route_text}
use Rattle.sccp_work.specs.Work.{answered}
use Rattle.sccp_work.specs.declared.status.Status.TheVariants.{Done}
use Rattle.sccp_work.specs.declared.stop.Stop.TheVariants.{Memory}
use Rattle.sccp_work.proofs.WorkLemmas.{Works-memory}
use Rattle.sccp_plans.proofs.following.route.Goals as goal

pub returns-in_err-text : goal.returns-in_err-text
returns-in_err-text g c =
    let p = err_from_is_err_and c.from_residual-in_err-text.result c.from_residual-in_err-text.ensures.1 in
    let m : Moment = moment g.F.Files.contents g.F.Files.sound g.F.Files.faults g.K.Sink.taken g.K.Sink.faults c.with_plan.new.files
    c.with_plan.new.out in
    rw (p.1, p.2) (c.in_ok-plan.ensures.plan (λ plan. answered (Done, route_text plan c.args.start.now)) (Err Memory) m
    (Works-memory (answered (Done, route_text c.in_ok-plan.plan c.args.start.now)) m))
