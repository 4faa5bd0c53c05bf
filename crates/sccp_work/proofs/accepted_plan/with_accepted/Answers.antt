use Rattle.std.proofs.Common.{◌≡◌, sym, ◌∙◌, ap, subst, refl, Ok, Err}
use Rattle.std.proofs.lemmas.Result.{err_from_is_err_and}
use Rattle.plan_model.specs.Network.{Network}
use Rattle.plan_text.specs.PlanText.{plan_within}
use Rattle.sccp_work.specs.AcceptedPlan.{read_on_plan}
use Rattle.sccp_work.specs.Ending.{Works}
use Rattle.sccp_work.specs.Moment.{Moment, moment}
use Rattle.sccp_work.specs.declared.stop.Stop.TheVariants.{Memory}
use Rattle.sccp_work.proofs.AcceptedPlanLemmas.{Works-accepted, Works-unaccepted}
use Rattle.sccp_work.proofs.WorkLemmas.{Works-memory}
use Rattle.sccp_work.proofs.accepted_plan.with_accepted.Goals as goal

pub returns-in_err-accepted-in-Ok : goal.returns-in_err-accepted-in-Ok
returns-in_err-accepted-in-Ok g c =
    let p = err_from_is_err_and c.from_residual-in_err-accepted-in-Ok.result c.from_residual-in_err-accepted-in-Ok.ensures.1 in
    let m : Moment = moment g.F.Files.contents g.F.Files.sound g.F.Files.faults g.K.Sink.taken g.K.Sink.faults c.within_limit.new.files
    c.within_limit.new.out in
    let n : Moment = moment g.F.Files.contents g.F.Files.sound g.F.Files.faults g.K.Sink.taken g.K.Sink.faults c.within_limit.new.files
    c.if_accepted.new.out in
    let is = ap (plan_within c.args.file.now.limits) (sym c.deref.ensures.value)
    ∙ subst (λ l. plan_within l c.deref.result.now ≡ Ok c.in-Ok.plan) c.limits-limits.ensures c.in-Ok.ensures.plan in
    rw (p.1, p.2) (λ next. c.in_ok-text.ensures.whole (λ octets. read_on_plan c.args.word.now c.args.file.now.limits next
    (plan_within c.args.file.now.limits octets))
    (Err c.in_err-accepted-in-Ok.field-0.0) n
    (Works-unaccepted c.args.word.now c.args.file.now.limits next c.in_ok-text.text.items c.in-Ok.plan c.in_err-accepted-in-Ok.field-0.0
    m n is
    (c.in_err-accepted-in-Ok.ensures.goes_on m)))

pub returns-in-Ok-put_accepted : goal.returns-in-Ok-put_accepted
returns-in-Ok-put_accepted g c =
    let m : Moment = moment g.F.Files.contents g.F.Files.sound g.F.Files.faults g.K.Sink.taken g.K.Sink.faults c.within_limit.new.files
    c.within_limit.new.out in
    let n : Moment = moment g.F.Files.contents g.F.Files.sound g.F.Files.faults g.K.Sink.taken g.K.Sink.faults c.within_limit.new.files
    c.if_accepted.new.out in
    let o : Moment = moment g.F.Files.contents g.F.Files.sound g.F.Files.faults g.K.Sink.taken g.K.Sink.faults c.within_limit.new.files
    c.put_accepted.new.out in
    let is = ap (plan_within c.args.file.now.limits) (sym c.deref.ensures.value)
    ∙ subst (λ l. plan_within l c.deref.result.now ≡ Ok c.in-Ok.plan) c.limits-limits.ensures c.in-Ok.ensures.plan in
    let accepted = c.in_ok-accepted-in-Ok in
    λ next result after w.
    c.in_ok-text.ensures.whole (λ octets. read_on_plan c.args.word.now c.args.file.now.limits next
    (plan_within c.args.file.now.limits octets)) result after
    (Works-accepted c.args.word.now c.args.file.now.limits next c.in_ok-text.text.items c.in-Ok.plan accepted.accepted
    (Ok c.in-Ok-put_accepted.field-0) m n o is
    (accepted.ensures.goes_on m) c.in-Ok-put_accepted.ensures
    (record { contents = refl; sound = refl; read_faults = refl }) result after
    (subst (λ (p : Network). Works (next p) result o after) accepted.ensures.same w))

pub returns-in-Ok : goal.returns-in-Ok
returns-in-Ok g c =
    let m : Moment = moment g.F.Files.contents g.F.Files.sound g.F.Files.faults g.K.Sink.taken g.K.Sink.faults c.within_limit.new.files
    c.within_limit.new.out in
    let n : Moment = moment g.F.Files.contents g.F.Files.sound g.F.Files.faults g.K.Sink.taken g.K.Sink.faults c.within_limit.new.files
    c.if_accepted.new.out in
    let o : Moment = moment g.F.Files.contents g.F.Files.sound g.F.Files.faults g.K.Sink.taken g.K.Sink.faults c.within_limit.new.files
    c.put_accepted.new.out in
    let is = ap (plan_within c.args.file.now.limits) (sym c.deref.ensures.value)
    ∙ subst (λ l. plan_within l c.deref.result.now ≡ Ok c.in-Ok.plan) c.limits-limits.ensures c.in-Ok.ensures.plan in
    let accepted = c.in_ok-accepted-in-Ok in
    λ next. c.in_ok-text.ensures.whole (λ octets. read_on_plan c.args.word.now c.args.file.now.limits next
    (plan_within c.args.file.now.limits octets)) (Err c.in-Err-put_accepted.stop) o
    (Works-accepted c.args.word.now c.args.file.now.limits next c.in_ok-text.text.items c.in-Ok.plan accepted.accepted
    (Err c.in-Err-put_accepted.stop) m n o is
    (accepted.ensures.goes_on m) c.in-Err-put_accepted.ensures
    (record { contents = refl; sound = refl; read_faults = refl }))

pub returns-in_err-line-in-Err : goal.returns-in_err-line-in-Err
returns-in_err-line-in-Err g c =
    let p = err_from_is_err_and c.from_residual-in_err-line-in-Err.result c.from_residual-in_err-line-in-Err.ensures.1 in
    let m : Moment = moment g.F.Files.contents g.F.Files.sound g.F.Files.faults g.K.Sink.taken g.K.Sink.faults c.within_limit.new.files
    c.within_limit.new.out in
    rw (p.1, p.2) (λ next. c.in_ok-text.ensures.whole (λ octets. read_on_plan c.args.word.now c.args.file.now.limits next
    (plan_within c.args.file.now.limits octets)) (Err Memory) m
    (Works-memory (read_on_plan c.args.word.now c.args.file.now.limits next
    (plan_within c.args.file.now.limits c.in_ok-text.text.items)) m))
