use Rattle.std.proofs.Common.{◌≡◌, ◌<◌, ◌≤◌, ◌+◌, ℕ, [], List, length, take, None, refl, sym, ap, subst, arith}
use Rattle.std.proofs.lemmas.List.{length-take}
use Rattle.std.proofs.lemmas.Result.{err_from_is_err_and}
use Rattle.trace_text.specs.declared.line.Numbered.{Numbered}
use Rattle.sccp_replay.specs.Gathering.{lines_in}
use Rattle.sccp_work.specs.Moment.{Moment, moment}
use Rattle.sccp_replay.specs.Replay.{trace_work}
use Rattle.sccp_replay.specs.Replaying.{GoesOn}
use Rattle.sccp_replay.specs.Trace.{trace_of}
use Rattle.sccp_work.specs.Work.{Work, read}
use Rattle.sccp_replay.proofs.Fed.{any_fed, fed_on, fed_short, few_fed, nothing_fed}
use Rattle.sccp_replay.proofs.Gathering.{counted_done, none_counted}
use Rattle.sccp_replay.proofs.TakeSteps.{told_taken, told_stopped}
use Rattle.sccp_replay.proofs.TraceSteps.{begin_fails, trace_begun, take_fails, take_memory, piece_fed, end_found, fault_stands, no_fault}
use Rattle.sccp_replay.proofs.tracing.replay_trace.Goals as goal

pub returns-in-Err : goal.returns-in-Err
returns-in-Err g c =
    let b : Moment = moment g.F.Files.contents g.F.Files.sound g.F.Files.faults g.K.Sink.taken g.K.Sink.faults c.args.files.now
    c.args.out.now in
    let m : Moment = moment g.F.Files.contents g.F.Files.sound g.F.Files.faults g.K.Sink.taken g.K.Sink.faults c.begin.new.self
    c.args.out.now in
    let e = c.in-Err.ensures in
    begin_fails c.args.name.now (λ octets. trace_work c.args.at.now (trace_of octets)) c.in-Err.fault c.stopped.result
    (g.F.Files.left c.args.files.now) (g.F.Files.left c.begin.new.self) b m e.begins
    (record { contents = e.contents; sound = e.soundness; taken = refl; write_faults = refl }) c.stopped.ensures

pub loop-turn-init : goal.loop-turn-init
loop-turn-init g c =
    let b : Moment = moment g.F.Files.contents g.F.Files.sound g.F.Files.faults g.K.Sink.taken g.K.Sink.faults c.args.files.now
    c.args.out.now in
    let m : Moment = moment g.F.Files.contents g.F.Files.sound g.F.Files.faults g.K.Sink.taken g.K.Sink.faults c.begin.new.self
    c.args.out.now in
    let e = c.in_default.ensures in
    record {
      goes = trace_begun c.args.name.now c.args.at.now (lines_in c.new-batch.result) c.new-reader.result (g.F.Files.left c.args.files.now)
          (g.F.Files.left c.begin.new.self) b m e.begins
          (record { contents = e.contents; sound = e.soundness; taken = refl; write_faults = refl })
          (ap lines_in c.new-batch.ensures) c.new-reader.ensures.start;
      begun = none_counted c.args.at.now _ c.requires.none c.new-batch.ensures;
      fed = nothing_fed c.new-reader.result c.new-reader.ensures.text;
    }

pub returns-in-Err-take : goal.returns-in-Err-take
returns-in-Err-take g c =
    let work : Work = read c.args.name.now (λ octets. trace_work c.args.at.now (trace_of octets)) in
    let b : Moment = moment g.F.Files.contents g.F.Files.sound g.F.Files.faults g.K.Sink.taken g.K.Sink.faults c.args.files.now
    c.args.out.now in
    let m : Moment = moment g.F.Files.contents g.F.Files.sound g.F.Files.faults g.K.Sink.taken g.K.Sink.faults c.loop-turn.files
    c.loop-turn.out in
    let a : Moment = moment g.F.Files.contents g.F.Files.sound g.F.Files.faults g.K.Sink.taken g.K.Sink.faults c.take.new.self
    c.loop-turn.out in
    let e = c.in-Err-take.ensures in
    take_fails work c.loop-turn.progress.count c.loop-turn.at
    (lines_in c.loop-turn.progress.batch) c.loop-turn.reader c.in-Err-take.fault c.stopped-in-Err-take.result c.take.new.buffer
    (g.F.Files.left c.loop-turn.files) (g.F.Files.left c.take.new.self) b m a
    c.loop-turn.invariant.goes e.takes
    (record { contents = e.contents; sound = e.soundness; taken = refl; write_faults = refl }) c.stopped-in-Err-take.ensures

pub returns-then-taken-eq0 : goal.returns-then-taken-eq0
returns-then-taken-eq0 g c =
    let work : Work = read c.args.name.now (λ octets. trace_work c.args.at.now (trace_of octets)) in
    let b : Moment = moment g.F.Files.contents g.F.Files.sound g.F.Files.faults g.K.Sink.taken g.K.Sink.faults c.args.files.now
    c.args.out.now in
    let m : Moment = moment g.F.Files.contents g.F.Files.sound g.F.Files.faults g.K.Sink.taken g.K.Sink.faults c.loop-turn.files
    c.loop-turn.out in
    let a : Moment = moment g.F.Files.contents g.F.Files.sound g.F.Files.faults g.K.Sink.taken g.K.Sink.faults c.take.new.self
    c.loop-turn.out in
    let z : Moment = moment g.F.Files.contents g.F.Files.sound g.F.Files.faults g.K.Sink.taken g.K.Sink.faults c.take_end.new.files
    c.take_end.new.out in
    let e = c.in-Ok.ensures in
    let none : c.in-Ok.taken ≡ 0 = omega (arith, c.if-taken-eq0.true) in
    end_found work c.loop-turn.progress.count c.loop-turn.at
    (lines_in c.loop-turn.progress.batch) c.loop-turn.reader c.in-Ok.taken c.take.new.buffer
    (g.F.Files.left c.loop-turn.files) (g.F.Files.left c.take.new.self) c.take_end.result b m a z
    c.loop-turn.invariant.goes e.takes none
    (record { contents = e.contents; sound = e.soundness; taken = refl; write_faults = refl }) c.take_end.ensures

pub returns-in_err-fed : goal.returns-in_err-fed
returns-in_err-fed g c =
    let p = err_from_is_err_and c.from_residual.result c.from_residual.ensures.1 in
    let work : Work = read c.args.name.now (λ octets. trace_work c.args.at.now (trace_of octets)) in
    let b : Moment = moment g.F.Files.contents g.F.Files.sound g.F.Files.faults g.K.Sink.taken g.K.Sink.faults c.args.files.now
    c.args.out.now in
    let m : Moment = moment g.F.Files.contents g.F.Files.sound g.F.Files.faults g.K.Sink.taken g.K.Sink.faults c.loop-turn.files
    c.loop-turn.out in
    let a : Moment = moment g.F.Files.contents g.F.Files.sound g.F.Files.faults g.K.Sink.taken g.K.Sink.faults c.take.new.self
    c.loop-turn.out in
    let e = c.in-Ok.ensures in
    rw (p.1, p.2) (take_memory work c.loop-turn.progress.count c.loop-turn.at
    (lines_in c.loop-turn.progress.batch) c.loop-turn.reader c.in-Ok.taken c.take.new.buffer (g.F.Files.left c.loop-turn.files)
    (g.F.Files.left c.take.new.self) b m a
    c.loop-turn.invariant.goes e.takes (record { contents = e.contents; sound = e.soundness; taken = refl; write_faults = refl }))

pub take_end-requires-clause-fed : goal.take_end-requires-clause-fed
take_end-requires-clause-fed g c κs within =
    any_fed c.loop-turn.reader c.loop-turn.progress.count c.loop-turn._turn c.loop-turn.invariant.fed

pub take_told-requires-clause-few : goal.take_told-requires-clause-few
take_told-requires-clause-few g c κs within =
    few_fed c.loop-turn.reader c.feed.new.self c.loop-turn.progress.count c.loop-turn._turn
    (take c.in-Ok.taken c.take.new.buffer) c.in_ok-fed.fed c.loop-turn.invariant.fed c.in_ok-fed.ensures.text

pub write_last-requires-clause-joined : goal.write_last-requires-clause-joined
write_last-requires-clause-joined g c κs within =
    let counted = c.in_ok-take_told.ensures.count in
    let few = few_fed c.loop-turn.reader c.feed.new.self c.loop-turn.progress.count c.loop-turn._turn
    (take c.in-Ok.taken c.take.new.buffer) c.in_ok-fed.fed c.loop-turn.invariant.fed c.in_ok-fed.ensures.text in
    counted_done c.take_told.new.at c.take_told.new.progress c.in_ok-take_told.ensures.begun (omega (arith, counted, few))

pub returns-in_err-take_told : goal.returns-in_err-take_told
returns-in_err-take_told g c =
    let p = err_from_is_err_and c.from_residual-in_err-take_told.result c.from_residual-in_err-take_told.ensures.1 in
    let work : Work = read c.args.name.now (λ octets. trace_work c.args.at.now (trace_of octets)) in
    let b : Moment = moment g.F.Files.contents g.F.Files.sound g.F.Files.faults g.K.Sink.taken g.K.Sink.faults c.args.files.now
    c.args.out.now in
    let m : Moment = moment g.F.Files.contents g.F.Files.sound g.F.Files.faults g.K.Sink.taken g.K.Sink.faults c.loop-turn.files
    c.loop-turn.out in
    let a : Moment = moment g.F.Files.contents g.F.Files.sound g.F.Files.faults g.K.Sink.taken g.K.Sink.faults c.take.new.self
    c.loop-turn.out in
    let z : Moment = moment g.F.Files.contents g.F.Files.sound g.F.Files.faults g.K.Sink.taken g.K.Sink.faults c.take_told.new.files
    c.take_told.new.out in
    let e = c.in-Ok.ensures in
    let lines : List Numbered = c.in_ok-fed.fed.lines in
    let fed = piece_fed work c.loop-turn.progress.count c.loop-turn.at
    (lines_in c.loop-turn.progress.batch) c.loop-turn.reader c.feed.new.self c.in-Ok.taken c.take.new.buffer
    (take c.in-Ok.taken c.take.new.buffer) lines (g.F.Files.left c.loop-turn.files) (g.F.Files.left c.take.new.self) b m a
    c.loop-turn.invariant.goes e.takes refl c.in_ok-fed.ensures.goes_on
    (record { contents = e.contents; sound = e.soundness; taken = refl; write_faults = refl }) in
    rw (p.1, p.2) (told_stopped work (c.loop-turn.progress.count + length lines) c.loop-turn.at c.take_told.new.at
    (lines_in c.loop-turn.progress.batch)
    (lines_in c.take_told.new.progress.batch) lines c.feed.new.self
    (g.F.Files.left c.take.new.self) c.in_err-take_told.field-0.0 b a z fed c.in_err-take_told.ensures.takes)

pub returns-then-is_some : goal.returns-then-is_some
returns-then-is_some g c =
    let work : Work = read c.args.name.now (λ octets. trace_work c.args.at.now (trace_of octets)) in
    let b : Moment = moment g.F.Files.contents g.F.Files.sound g.F.Files.faults g.K.Sink.taken g.K.Sink.faults c.args.files.now
    c.args.out.now in
    let m : Moment = moment g.F.Files.contents g.F.Files.sound g.F.Files.faults g.K.Sink.taken g.K.Sink.faults c.loop-turn.files
    c.loop-turn.out in
    let a : Moment = moment g.F.Files.contents g.F.Files.sound g.F.Files.faults g.K.Sink.taken g.K.Sink.faults c.take.new.self
    c.loop-turn.out in
    let z : Moment = moment g.F.Files.contents g.F.Files.sound g.F.Files.faults g.K.Sink.taken g.K.Sink.faults c.take_told.new.files
    c.take_told.new.out in
    let last : Moment = moment g.F.Files.contents g.F.Files.sound g.F.Files.faults g.K.Sink.taken g.K.Sink.faults c.write_last.new.files
    c.write_last.new.out in
    let e = c.in-Ok.ensures in
    let lines : List Numbered = c.in_ok-fed.fed.lines in
    let n = c.take_told.new.progress.count in
    let fed = piece_fed work c.loop-turn.progress.count c.loop-turn.at
    (lines_in c.loop-turn.progress.batch) c.loop-turn.reader c.feed.new.self c.in-Ok.taken c.take.new.buffer
    (take c.in-Ok.taken c.take.new.buffer) lines (g.F.Files.left c.loop-turn.files) (g.F.Files.left c.take.new.self) b m a
    c.loop-turn.invariant.goes e.takes refl c.in_ok-fed.ensures.goes_on
    (record { contents = e.contents; sound = e.soundness; taken = refl; write_faults = refl }) in
    let told = told_taken work (c.loop-turn.progress.count + length lines) c.loop-turn.at c.take_told.new.at
    (lines_in c.loop-turn.progress.batch)
    (lines_in c.take_told.new.progress.batch) lines c.feed.new.self
    (g.F.Files.left c.take.new.self) b a z fed c.in_ok-take_told.ensures.takes in
    let goes = subst (λ k. GoesOn work k c.take_told.new.at (lines_in c.take_told.new.progress.batch) [] c.feed.new.self
    (g.F.Files.left c.take.new.self) b z) (sym c.in_ok-take_told.ensures.count) told in
    fault_stands work n c.take_told.new.at (lines_in c.take_told.new.progress.batch) c.feed.new.self
    (g.F.Files.left c.take.new.self) c.in_ok-fed.fed.fault c.write_last.result b z last goes c.if-is_some.ensures
    c.in_ok-fed.ensures.fault c.write_last.ensures

pub loop-turn-preserved : goal.loop-turn-preserved
loop-turn-preserved g c =
    let work : Work = read c.args.name.now (λ octets. trace_work c.args.at.now (trace_of octets)) in
    let b : Moment = moment g.F.Files.contents g.F.Files.sound g.F.Files.faults g.K.Sink.taken g.K.Sink.faults c.args.files.now
    c.args.out.now in
    let m : Moment = moment g.F.Files.contents g.F.Files.sound g.F.Files.faults g.K.Sink.taken g.K.Sink.faults c.loop-turn.files
    c.loop-turn.out in
    let a : Moment = moment g.F.Files.contents g.F.Files.sound g.F.Files.faults g.K.Sink.taken g.K.Sink.faults c.take.new.self
    c.loop-turn.out in
    let z : Moment = moment g.F.Files.contents g.F.Files.sound g.F.Files.faults g.K.Sink.taken g.K.Sink.faults c.take_told.new.files
    c.take_told.new.out in
    let e = c.in-Ok.ensures in
    let lines : List Numbered = c.in_ok-fed.fed.lines in
    let fed = piece_fed work c.loop-turn.progress.count c.loop-turn.at
    (lines_in c.loop-turn.progress.batch) c.loop-turn.reader c.feed.new.self c.in-Ok.taken c.take.new.buffer
    (take c.in-Ok.taken c.take.new.buffer) lines (g.F.Files.left c.loop-turn.files) (g.F.Files.left c.take.new.self) b m a
    c.loop-turn.invariant.goes e.takes refl c.in_ok-fed.ensures.goes_on
    (record { contents = e.contents; sound = e.soundness; taken = refl; write_faults = refl }) in
    let told = told_taken work (c.loop-turn.progress.count + length lines) c.loop-turn.at c.take_told.new.at
    (lines_in c.loop-turn.progress.batch)
    (lines_in c.take_told.new.progress.batch) lines c.feed.new.self
    (g.F.Files.left c.take.new.self) b a z fed c.in_ok-take_told.ensures.takes in
    let piece : List ℕ = take c.in-Ok.taken c.take.new.buffer in
    let bound : c.in-Ok.taken ≤ length c.take.new.buffer = e.takes.bound in
    let not_none = c.if-taken-eq0.false in
    let some : 0 < length piece = omega (arith, length-take c.in-Ok.taken c.take.new.buffer, bound, not_none) in
    let none : c.in_ok-fed.fed.fault ≡ None = no_fault c.in_ok-fed.fed.fault c.if-is_some.ensures in
    record {
      goes = subst (λ k. GoesOn work k c.take_told.new.at (lines_in c.take_told.new.progress.batch) [] c.feed.new.self
          (g.F.Files.left c.take_told.new.files) b z) (sym c.in_ok-take_told.ensures.count)
          (subst (λ l. GoesOn work (c.loop-turn.progress.count + length lines) c.take_told.new.at (lines_in c.take_told.new.progress.batch)
          [] c.feed.new.self l b z) (sym c.in_ok-take_told.ensures.left) told);
      begun = c.in_ok-take_told.ensures.begun;
      fed = fed_on c.loop-turn.reader c.feed.new.self c.loop-turn.progress.count c.take_told.new.progress.count c.loop-turn._turn
          piece c.in_ok-fed.fed
          c.loop-turn.invariant.fed c.in_ok-fed.ensures.text some none c.in_ok-take_told.ensures.count;
    }

pub unreachable-requires : goal.unreachable-requires
unreachable-requires g c =
    let all = c.loop-turn-test.false in
    absurd (omega (arith, all, fed_short c.loop-turn.reader c.loop-turn.progress.count c.loop-turn._turn c.loop-turn.invariant.fed))
