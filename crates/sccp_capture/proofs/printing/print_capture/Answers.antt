use Rattle.std.proofs.Common.{◌≡◌, List, Ok, Err, map, take, refl, subst, arith}
use Rattle.std.proofs.lemmas.Result.{err_from_is_err_and}
use Rattle.capture_file.specs.Packets.{Captured}
use Rattle.capture_file.specs.Views.{captured}
use Rattle.sccp_capture.specs.Printing.{file_work, octets_work}
use Rattle.sccp_capture.specs.Steps.{PrintsPackets}
use Rattle.sccp_capture.proofs.LoopLemmas.{rest_work, file_begun, piece_fails, piece_fed, piece_lost, piece_printed}
use Rattle.sccp_capture.proofs.LoopLemmas.{piece_unprinted, fault_met, file_ended}
use Rattle.sccp_work.specs.Moment.{Moment, moment}
use Rattle.sccp_work.specs.Pieces.{GoesOn}
use Rattle.sccp_work.specs.Work.{Work}
use Rattle.sccp_work.proofs.PieceLemmas.{begin_fails, memory_wanting}
use Rattle.sccp_capture.proofs.printing.print_capture.Goals as goal

pub returns-in-Err : goal.returns-in-Err
returns-in-Err g c =
    let b : Moment = moment g.F.Files.contents g.F.Files.sound g.F.Files.faults g.K.Sink.taken g.K.Sink.faults c.args.files.now
    c.args.out.now in
    let m : Moment = moment g.F.Files.contents g.F.Files.sound g.F.Files.faults g.K.Sink.taken g.K.Sink.faults c.begin.new.self
    c.args.out.now in
    let e = c.in-Err.ensures in
    begin_fails c.args.name.now (octets_work c.args.plan.now) c.in-Err.fault c.stopped.result
    (g.F.Files.left c.args.files.now) (g.F.Files.left c.begin.new.self) b m e.begins
    (record { contents = e.contents; sound = e.soundness; taken = refl; write_faults = refl }) c.stopped.ensures

pub loop-turn-init : goal.loop-turn-init
loop-turn-init g c =
    let b : Moment = moment g.F.Files.contents g.F.Files.sound g.F.Files.faults g.K.Sink.taken g.K.Sink.faults c.args.files.now
    c.args.out.now in
    let m : Moment = moment g.F.Files.contents g.F.Files.sound g.F.Files.faults g.K.Sink.taken g.K.Sink.faults c.begin.new.self
    c.args.out.now in
    let e = c.in_default.ensures in
    file_begun c.args.plan.now c.args.name.now c.new-reader.result c.in_ok-capture.capture (g.F.Files.left c.args.files.now)
    (g.F.Files.left c.begin.new.self) b m e.begins
    (record { contents = e.contents; sound = e.soundness; taken = refl; write_faults = refl })
    c.new-reader.ensures.start c.in_ok-capture.ensures

pub returns-in-Err-take : goal.returns-in-Err-take
returns-in-Err-take g c =
    let b : Moment = moment g.F.Files.contents g.F.Files.sound g.F.Files.faults g.K.Sink.taken g.K.Sink.faults c.args.files.now
    c.args.out.now in
    let m : Moment = moment g.F.Files.contents g.F.Files.sound g.F.Files.faults g.K.Sink.taken g.K.Sink.faults c.loop-turn.files
    c.loop-turn.out in
    let a : Moment = moment g.F.Files.contents g.F.Files.sound g.F.Files.faults g.K.Sink.taken g.K.Sink.faults c.take.new.self
    c.loop-turn.out in
    let e = c.in-Err-take.ensures in
    piece_fails (file_work c.args.plan.now c.args.name.now) c.args.plan.now c.loop-turn.capture c.loop-turn.reader c.in-Err-take.fault
    c.stopped-in-Err-take.result c.take.new.buffer (g.F.Files.left c.loop-turn.files) (g.F.Files.left c.take.new.self) b m a
    c.loop-turn.invariant e.takes
    (record { contents = e.contents; sound = e.soundness; taken = refl; write_faults = refl }) c.stopped-in-Err-take.ensures

pub returns-then-taken-eq0 : goal.returns-then-taken-eq0
returns-then-taken-eq0 g c =
    let b : Moment = moment g.F.Files.contents g.F.Files.sound g.F.Files.faults g.K.Sink.taken g.K.Sink.faults c.args.files.now
    c.args.out.now in
    let m : Moment = moment g.F.Files.contents g.F.Files.sound g.F.Files.faults g.K.Sink.taken g.K.Sink.faults c.loop-turn.files
    c.loop-turn.out in
    let a : Moment = moment g.F.Files.contents g.F.Files.sound g.F.Files.faults g.K.Sink.taken g.K.Sink.faults c.take.new.self
    c.loop-turn.out in
    let z : Moment = moment g.F.Files.contents g.F.Files.sound g.F.Files.faults g.K.Sink.taken g.K.Sink.faults c.take.new.self
    c.print_end.new.out in
    let e = c.in-Ok.ensures in
    let none : c.in-Ok.taken ≡ 0 = omega (arith, c.if-taken-eq0.true) in
    file_ended (file_work c.args.plan.now c.args.name.now) c.args.plan.now c.loop-turn.capture c.loop-turn.reader c.in-Ok.taken
    c.take.new.buffer (g.F.Files.left c.loop-turn.files) (g.F.Files.left c.take.new.self) c.finish-fault.result c.print_end.result b m a z
    c.loop-turn.invariant e.takes none
    (record { contents = e.contents; sound = e.soundness; taken = refl; write_faults = refl }) c.finish-fault.ensures.exact
    (c.print_end.ensures a)

pub returns-in_err-fed : goal.returns-in_err-fed
returns-in_err-fed g c =
    let p = err_from_is_err_and c.from_residual-in_err-fed.result c.from_residual-in_err-fed.ensures.1 in
    let b : Moment = moment g.F.Files.contents g.F.Files.sound g.F.Files.faults g.K.Sink.taken g.K.Sink.faults c.args.files.now
    c.args.out.now in
    let m : Moment = moment g.F.Files.contents g.F.Files.sound g.F.Files.faults g.K.Sink.taken g.K.Sink.faults c.loop-turn.files
    c.loop-turn.out in
    let a : Moment = moment g.F.Files.contents g.F.Files.sound g.F.Files.faults g.K.Sink.taken g.K.Sink.faults c.take.new.self
    c.loop-turn.out in
    let e = c.in-Ok.ensures in
    rw (p.1, p.2)
    (piece_lost (file_work c.args.plan.now c.args.name.now) c.args.plan.now c.loop-turn.capture c.loop-turn.reader c.in-Ok.taken
    c.take.new.buffer (g.F.Files.left c.loop-turn.files) (g.F.Files.left c.take.new.self) b m a c.loop-turn.invariant e.takes
    (record { contents = e.contents; sound = e.soundness; taken = refl; write_faults = refl }))

pub returns-in_err-print_packets : goal.returns-in_err-print_packets
returns-in_err-print_packets g c =
    let p = err_from_is_err_and c.from_residual-in_err-print_packets.result c.from_residual-in_err-print_packets.ensures.1 in
    let work : Work = file_work c.args.plan.now c.args.name.now in
    let b : Moment = moment g.F.Files.contents g.F.Files.sound g.F.Files.faults g.K.Sink.taken g.K.Sink.faults c.args.files.now
    c.args.out.now in
    let m : Moment = moment g.F.Files.contents g.F.Files.sound g.F.Files.faults g.K.Sink.taken g.K.Sink.faults c.loop-turn.files
    c.loop-turn.out in
    let a : Moment = moment g.F.Files.contents g.F.Files.sound g.F.Files.faults g.K.Sink.taken g.K.Sink.faults c.take.new.self
    c.loop-turn.out in
    let z : Moment = moment g.F.Files.contents g.F.Files.sound g.F.Files.faults g.K.Sink.taken g.K.Sink.faults c.take.new.self
    c.print_packets.new.out in
    let e = c.in-Ok.ensures in
    let packets : List Captured = map captured c.in_ok-fed.fed.packets in
    let fed = piece_fed work c.args.plan.now c.loop-turn.capture c.loop-turn.reader c.feed.new.self c.in-Ok.taken c.take.new.buffer
    (take c.in-Ok.taken c.take.new.buffer) packets (g.F.Files.left c.loop-turn.files) (g.F.Files.left c.take.new.self) b m a
    c.loop-turn.invariant e.takes refl c.in_ok-fed.ensures.goes_on
    (record { contents = e.contents; sound = e.soundness; taken = refl; write_faults = refl }) in
    let prints : PrintsPackets {T = Unit {0}} c.args.plan.now packets c.loop-turn.capture
    (Err c.in_err-print_packets.field-0.0) c.print_packets.new.capture a z =
    subst (λ ps. PrintsPackets {T = Unit {0}} c.args.plan.now (map captured ps) c.loop-turn.capture (Err c.in_err-print_packets.field-0.0)
    c.print_packets.new.capture a z) c.as_slice.ensures (c.in_err-print_packets.ensures a) in
    rw (p.1, p.2)
    (piece_unprinted work c.args.plan.now c.loop-turn.capture c.print_packets.new.capture c.feed.new.self packets
    (g.F.Files.left c.take.new.self) c.in_err-print_packets.field-0.0 b a z fed prints)

pub returns-then-is_some : goal.returns-then-is_some
returns-then-is_some g c =
    let work : Work = file_work c.args.plan.now c.args.name.now in
    let b : Moment = moment g.F.Files.contents g.F.Files.sound g.F.Files.faults g.K.Sink.taken g.K.Sink.faults c.args.files.now
    c.args.out.now in
    let m : Moment = moment g.F.Files.contents g.F.Files.sound g.F.Files.faults g.K.Sink.taken g.K.Sink.faults c.loop-turn.files
    c.loop-turn.out in
    let a : Moment = moment g.F.Files.contents g.F.Files.sound g.F.Files.faults g.K.Sink.taken g.K.Sink.faults c.take.new.self
    c.loop-turn.out in
    let z : Moment = moment g.F.Files.contents g.F.Files.sound g.F.Files.faults g.K.Sink.taken g.K.Sink.faults c.take.new.self
    c.print_packets.new.out in
    let last : Moment = moment g.F.Files.contents g.F.Files.sound g.F.Files.faults g.K.Sink.taken g.K.Sink.faults c.take.new.self
    c.print_end-then-is_some.new.out in
    let e = c.in-Ok.ensures in
    let packets : List Captured = map captured c.in_ok-fed.fed.packets in
    let fed = piece_fed work c.args.plan.now c.loop-turn.capture c.loop-turn.reader c.feed.new.self c.in-Ok.taken c.take.new.buffer
    (take c.in-Ok.taken c.take.new.buffer) packets (g.F.Files.left c.loop-turn.files) (g.F.Files.left c.take.new.self) b m a
    c.loop-turn.invariant e.takes refl c.in_ok-fed.ensures.goes_on
    (record { contents = e.contents; sound = e.soundness; taken = refl; write_faults = refl }) in
    let prints : PrintsPackets {T = Unit {0}} c.args.plan.now packets c.loop-turn.capture (Ok tt) c.print_packets.new.capture a z =
    subst (λ ps. PrintsPackets {T = Unit {0}} c.args.plan.now (map captured ps) c.loop-turn.capture (Ok tt)
    c.print_packets.new.capture a z) c.as_slice.ensures (c.in_ok-print_packets.ensures a) in
    let printed : GoesOn work (rest_work c.args.plan.now c.print_packets.new.capture c.feed.new.self) (g.F.Files.left c.take.new.self) b z =
    piece_printed work c.args.plan.now c.loop-turn.capture c.print_packets.new.capture c.feed.new.self packets
    (g.F.Files.left c.take.new.self) b a z fed prints in
    fault_met work c.args.plan.now c.print_packets.new.capture c.feed.new.self (g.F.Files.left c.take.new.self) c.in_ok-fed.fed.fault
    c.print_end-then-is_some.result b z last printed c.if-is_some.ensures c.in_ok-fed.ensures.fault (c.print_end-then-is_some.ensures z)

pub loop-turn-preserved : goal.loop-turn-preserved
loop-turn-preserved g c =
    let work : Work = file_work c.args.plan.now c.args.name.now in
    let b : Moment = moment g.F.Files.contents g.F.Files.sound g.F.Files.faults g.K.Sink.taken g.K.Sink.faults c.args.files.now
    c.args.out.now in
    let m : Moment = moment g.F.Files.contents g.F.Files.sound g.F.Files.faults g.K.Sink.taken g.K.Sink.faults c.loop-turn.files
    c.loop-turn.out in
    let a : Moment = moment g.F.Files.contents g.F.Files.sound g.F.Files.faults g.K.Sink.taken g.K.Sink.faults c.take.new.self
    c.loop-turn.out in
    let z : Moment = moment g.F.Files.contents g.F.Files.sound g.F.Files.faults g.K.Sink.taken g.K.Sink.faults c.take.new.self
    c.print_packets.new.out in
    let e = c.in-Ok.ensures in
    let packets : List Captured = map captured c.in_ok-fed.fed.packets in
    let fed = piece_fed work c.args.plan.now c.loop-turn.capture c.loop-turn.reader c.feed.new.self c.in-Ok.taken c.take.new.buffer
    (take c.in-Ok.taken c.take.new.buffer) packets (g.F.Files.left c.loop-turn.files) (g.F.Files.left c.take.new.self) b m a
    c.loop-turn.invariant e.takes refl c.in_ok-fed.ensures.goes_on
    (record { contents = e.contents; sound = e.soundness; taken = refl; write_faults = refl }) in
    let prints : PrintsPackets {T = Unit {0}} c.args.plan.now packets c.loop-turn.capture (Ok tt) c.print_packets.new.capture a z =
    subst (λ ps. PrintsPackets {T = Unit {0}} c.args.plan.now (map captured ps) c.loop-turn.capture (Ok tt)
    c.print_packets.new.capture a z) c.as_slice.ensures (c.in_ok-print_packets.ensures a) in
    piece_printed work c.args.plan.now c.loop-turn.capture c.print_packets.new.capture c.feed.new.self packets
    (g.F.Files.left c.take.new.self) b a z fed prints

pub returns : goal.returns
returns g c =
    let b : Moment = moment g.F.Files.contents g.F.Files.sound g.F.Files.faults g.K.Sink.taken g.K.Sink.faults c.args.files.now
    c.args.out.now in
    let m : Moment = moment g.F.Files.contents g.F.Files.sound g.F.Files.faults g.K.Sink.taken g.K.Sink.faults c.loop-turn.files
    c.loop-turn.out in
    memory_wanting (file_work c.args.plan.now c.args.name.now) (rest_work c.args.plan.now c.loop-turn.capture c.loop-turn.reader)
    (g.F.Files.left c.loop-turn.files) b m c.loop-turn.invariant
