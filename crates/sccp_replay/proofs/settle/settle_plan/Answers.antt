use Rattle.std.proofs.Common.{Err}
use Rattle.std.proofs.lemmas.Result.{err_from_is_err_and}
use Rattle.plan_model.specs.declared.limits.Limits.{Limits}
use Rattle.plan_text.specs.PlanText.{plan_within}
use Rattle.sccp_work.specs.Moment.{Moment, moment}
use Rattle.sccp_replay.specs.Replay.{later_work}
use Rattle.sccp_work.specs.declared.stop.Stop.TheVariants.{Memory}
use Rattle.sccp_work.proofs.WorkLemmas.{Works-memory}
use Rattle.sccp_replay.specs.Routings.{ahead}
use Rattle.sccp_replay.proofs.settle.settle_plan.Goals as goal

pub returns-in_err-read_later-clause-gives : goal.returns-in_err-read_later-clause-gives
returns-in_err-read_later-clause-gives g c =
    let p = err_from_is_err_and c.from_residual-in_err-read_later.result c.from_residual-in_err-read_later.ensures.1 in
    let m : Moment = moment g.F.Files.contents g.F.Files.sound g.F.Files.faults g.K.Sink.taken g.K.Sink.faults c.later_text.new.files
    c.later_text.new.out in
    let limits : Limits = c.args.at.now.first.limits in
    rw (p.1, p.2) (λ next. c.in_ok-text.ensures.whole (λ octets. later_work
    (ahead c.args.at.now c.args.coming.now) c.args.line c.args.name.now (plan_within limits octets) next) (Err Memory) m
    (Works-memory (later_work (ahead c.args.at.now c.args.coming.now) c.args.line c.args.name.now
    (plan_within limits c.in_ok-text.text.items) next) m))
