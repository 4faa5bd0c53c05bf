use Rattle.std.proofs.Common.{◌++◌, ◌∙◌, map, refl, ap}
use Rattle.std.proofs.lemmas.Result.{err_from_is_err_and}
use Rattle.capture_file.specs.Views.{captured}
use Rattle.sccp_capture.specs.Printing.{text_of_packets}
use Rattle.sccp_capture.proofs.PacketLemmas.{prints, prints_nothing}
use Rattle.sccp_work.specs.Moment.{Moment, with_sink}
use Rattle.sccp_capture.proofs.printing.print_packets.Goals as goal

pub returns-in_err-put_packets : goal.returns-in_err-put_packets
returns-in_err-put_packets g c = λ any.
    let p = err_from_is_err_and c.from_residual.result c.from_residual.ensures.1 in
    rw (p.1, p.2) (prints_nothing c.args.plan.now (map captured c.args.packets.now) c.args.capture.now c.put_packets.new.capture
    (with_sink any g.K.Sink.taken g.K.Sink.faults c.args.out.now))

pub returns : goal.returns
returns g c = λ any.
    let b : Moment = with_sink any g.K.Sink.taken g.K.Sink.faults c.args.out.now in
    let m : Moment = with_sink any g.K.Sink.taken g.K.Sink.faults c.put_all.new.out in
    prints c.args.plan.now (map captured c.args.packets.now) c.args.capture.now c.put_packets.new.capture c.as_slice.result.now
    c.put_all.result b m
    (c.as_slice.ensures.value ∙ c.in_ok-put_packets.ensures.text
    ∙ ap (λ t. t ++ text_of_packets c.args.plan.now (map captured c.args.packets.now) c.args.capture.now) c.clear.ensures.items)
    c.in_ok-put_packets.ensures.now c.put_all.ensures (record { contents = refl; sound = refl; read_faults = refl })
