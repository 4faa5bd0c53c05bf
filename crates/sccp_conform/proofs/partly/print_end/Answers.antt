use Rattle.std.proofs.Common.{[], refl}
use Rattle.std.proofs.lemmas.Result.{err_from_is_err_and}
use Rattle.sccp_conform.proofs.PrintingLemmas.{printed}
use Rattle.sccp_conform.specs.Reports.{heard_work}
use Rattle.sccp_work.proofs.WorkLemmas.{Works-memory}
use Rattle.sccp_work.specs.Moment.{Moment, with_sink}
use Rattle.sccp_conform.proofs.partly.print_end.Goals as goal

pub returns : goal.returns
returns g c = λ any whole is.
    let b : Moment = with_sink any g.K.Sink.taken g.K.Sink.faults c.args.out.now in
    let a : Moment = with_sink any g.K.Sink.taken g.K.Sink.faults c.print_last.new.out in
    let w = c.print_last.ensures in
    printed c.args.plan.now (whole []) c.in_ok-report.report c.as_slice.result.now c.print_last.result b a
    c.nodes-nodes.ensures.sound (c.in_ok-report.ensures whole is) c.as_slice.ensures w.text w.answer refl refl refl

pub returns-in_err-report : goal.returns-in_err-report
returns-in_err-report g c = λ any whole is.
    let p = err_from_is_err_and c.from_residual.result c.from_residual.ensures.1 in
    rw (p.1, p.2) (Works-memory (heard_work c.args.plan.now (whole [])) (with_sink any g.K.Sink.taken g.K.Sink.faults c.args.out.now))
