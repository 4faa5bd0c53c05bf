use Rattle.std.proofs.Common.{◌≡◌, sym, ◌∙◌, ap, subst, refl, Err}
use Rattle.std.proofs.lemmas.Result.{err_from_is_err_and}
use Rattle.std.specs.Prelude.{MatchBool, ⊤}
use Rattle.plan_text.specs.PlanText.{plan_within}
use Rattle.sccp_work.specs.Ending.{Works, early}
use Rattle.sccp_work.specs.Moment.{Moment, moment}
use Rattle.sccp_work.specs.Plans.{planned}
use Rattle.sccp_work.specs.declared.stop.Stop.TheVariants.{Memory}
use Rattle.sccp_work.proofs.PlanLemmas.{Works-bad_plan}
use Rattle.sccp_work.proofs.WorkLemmas.{Works-memory}
use Rattle.sccp_work.proofs.plans.with_plan.Goals as goal

pub returns : goal.returns
returns g c =
    let m : Moment = moment g.F.Files.contents g.F.Files.sound g.F.Files.faults g.K.Sink.taken g.K.Sink.faults c.within_limit.new.files
    c.within_limit.new.out in
    let a : Moment = moment g.F.Files.contents g.F.Files.sound g.F.Files.faults g.K.Sink.taken g.K.Sink.faults c.within_limit.new.files
    c.print_last.new.out in
    let line = c.in_ok-line-in-Err.ensures in
    let w = c.print_last.ensures in
    let read = subst (λ b. MatchBool b ⊤ (plan_within c.limits-limits.result c.deref.result.now
    ≡ Err c.in-Err.fault)) line.told c.in-Err.ensures.plan in
    let is = ap (plan_within c.limits-limits.result) (sym c.deref.ensures.value) ∙ read in
    record {
      plan = rw c.early.ensures (λ next. c.in_ok-text.ensures.whole
          (λ octets. planned c.args.file.now.limits (plan_within c.args.file.now.limits octets) next)
          (Err (early c.print_last.result)) a
          (subst (λ l. Works (planned l (plan_within l c.in_ok-text.text.items) next) (Err (early c.print_last.result)) m a)
          c.limits-limits.ensures (Works-bad_plan c.limits-limits.result next c.in_ok-text.text.items c.in-Err.fault c.as_slice.result.now
          c.print_last.result m a is (c.as_slice.ensures ∙ line.line) w.text w.answer refl refl refl)));
      sound = tt;
    }

pub returns-in_err-line-in-Err-clause-plan : goal.returns-in_err-line-in-Err-clause-plan
returns-in_err-line-in-Err-clause-plan g c =
    let p = err_from_is_err_and c.from_residual-in_err-line-in-Err.result c.from_residual-in_err-line-in-Err.ensures.1 in
    let m : Moment = moment g.F.Files.contents g.F.Files.sound g.F.Files.faults g.K.Sink.taken g.K.Sink.faults c.within_limit.new.files
    c.within_limit.new.out in
    rw (p.1, p.2) (λ next. c.in_ok-text.ensures.whole (λ octets. planned c.args.file.now.limits
    (plan_within c.args.file.now.limits octets) next) (Err Memory) m
    (Works-memory (planned c.args.file.now.limits (plan_within c.args.file.now.limits c.in_ok-text.text.items) next) m))
