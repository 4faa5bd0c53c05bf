use Rattle.std.proofs.Common.{refl}
use Rattle.sccp_conform.proofs.PrintingLemmas.{answer_printed}
use Rattle.sccp_work.specs.Moment.{Moment, with_sink}
use Rattle.watch_items.specs.Files.{if_read}
use Rattle.watch_items.specs.Items.{items_of}
use Rattle.sccp_conform.proofs.judging.print_report.Goals as goal

pub returns : goal.returns
returns g c = λ any.
    let b : Moment = with_sink any g.K.Sink.taken g.K.Sink.faults c.args.out.now in
    let a : Moment = with_sink any g.K.Sink.taken g.K.Sink.faults c.print_last.new.out in
    let w = c.print_last.ensures in
    answer_printed c.args.plan.now (if_read (items_of c.args.text.now)) c.in_ok-report.report c.as_slice.result.now c.print_last.result b a
    c.nodes-nodes.ensures.sound c.in_ok-report.ensures c.as_slice.ensures w.text w.answer refl refl refl
