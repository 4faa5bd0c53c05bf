use Rattle.std.proofs.Common.{Err, refl, ◌∙◌}
use Rattle.std.proofs.lemmas.Result.{err_from_is_err_and}
use Rattle.plan_check.specs.Verified.{Verified}
use Rattle.plan_model.specs.Network.{Network}
use Rattle.sccp_tool.specs.Connect.{connect_judged, connect_text}
use Rattle.sccp_work.specs.Moment.{Moment, moment}
use Rattle.sccp_work.specs.Work.{Work, answered}
use Rattle.sccp_work.specs.declared.status.Status.TheVariants.{Done}
use Rattle.sccp_tool.proofs.ConnectLemmas.{Works-connected}
use Rattle.sccp_tool.proofs.connect.connect.Goals as goal

pub returns-in_err-accepted : goal.returns-in_err-accepted
returns-in_err-accepted g c =
    let p = err_from_is_err_and c.from_residual-in_err-accepted.result c.from_residual-in_err-accepted.ensures.1 in
    let m : Moment = moment g.F.Files.contents g.F.Files.sound g.F.Files.faults g.K.Sink.taken g.K.Sink.faults c.with_plan.new.files
    c.if_accepted.new.out in
    let next : Network → Verified → Work = λ plan accepted. answered (Done, connect_text plan c.args.calling.now) in
    rw (p.1, p.2) (c.in_ok-plan.ensures.plan (connect_judged c.args.calling.now) (Err c.in_err-accepted.field-0.0) m
    (c.in_err-accepted.ensures.goes_on m (next c.in_ok-plan.plan)))

pub returns : goal.returns
returns g c =
    let m : Moment = moment g.F.Files.contents g.F.Files.sound g.F.Files.faults g.K.Sink.taken g.K.Sink.faults c.with_plan.new.files
    c.if_accepted.new.out in
    let a : Moment = moment g.F.Files.contents g.F.Files.sound g.F.Files.faults g.K.Sink.taken g.K.Sink.faults c.with_plan.new.files
    c.connect_accepted.new.out in
    let next : Network → Verified → Work = λ plan accepted. answered (Done, connect_text plan c.args.calling.now) in
    let told = c.connect_accepted.ensures in
    c.in_ok-plan.ensures.plan (connect_judged c.args.calling.now) c.connect_accepted.result a
    (c.in_ok-accepted.ensures.goes_on m (next c.in_ok-plan.plan) c.connect_accepted.result a
    (Works-connected c.in_ok-plan.plan c.into_plan.result c.args.calling.now c.connect_accepted.result m a
    (c.into_plan.ensures ∙ c.in_ok-accepted.ensures.same) told.text told.answer refl refl refl))
