use Rattle.std.proofs.Common.{◌≡◌, ◌≤◌, ◌<◌, ℕ, List, ◌++◌, length, take, refl, sym, ◌∙◌, ap, subst, arith}
use Rattle.std.proofs.lemmas.Result.{err_from_is_err_and}
use Rattle.sccp_conform.specs.Reports.{file_work, octets_work, work_on}
use Rattle.sccp_conform.proofs.OnFileLemmas.{rest_of, file_begun, file_fails, file_taken, text_printed, long_printed}
use Rattle.sccp_work.proofs.PieceLemmas.{begin_fails, memory_wanting}
use Rattle.sccp_work.specs.Ending.{Works}
use Rattle.sccp_work.specs.Moment.{Moment, moment}
use Rattle.sccp_work.specs.Pieces.{GoesOn}
use Rattle.sccp_work.specs.Work.{Work, read_on}
use Rattle.watch_items.specs.Files.{if_read}
use Rattle.watch_items.specs.Front.{is_capture}
use Rattle.watch_items.specs.Items.{items_of}
use Rattle.sccp_conform.proofs.on_file.judge_file.Goals as goal

pub returns-in-Err : goal.returns-in-Err
returns-in-Err g c =
    let b : Moment = moment g.F.Files.contents g.F.Files.sound g.F.Files.faults g.K.Sink.taken g.K.Sink.faults c.args.files.now
    c.args.out.now in
    let m : Moment = moment g.F.Files.contents g.F.Files.sound g.F.Files.faults g.K.Sink.taken g.K.Sink.faults c.begin.new.self
    c.args.out.now in
    let e = c.in-Err.ensures in
    begin_fails c.args.name.now (λ (octets : List ℕ). read_on (octets_work c.args.plan.now octets)) c.in-Err.fault c.stopped.result
    (g.F.Files.left c.args.files.now) (g.F.Files.left c.begin.new.self) b m e.begins
    (record { contents = e.contents; sound = e.soundness; taken = refl; write_faults = refl }) c.stopped.ensures

-- nothing was read
pub loop-piece-init : goal.loop-piece-init
loop-piece-init g c =
    let b : Moment = moment g.F.Files.contents g.F.Files.sound g.F.Files.faults g.K.Sink.taken g.K.Sink.faults c.args.files.now
    c.args.out.now in
    let m : Moment = moment g.F.Files.contents g.F.Files.sound g.F.Files.faults g.K.Sink.taken g.K.Sink.faults c.begin.new.self
    c.args.out.now in
    let e = c.in_default.ensures in
    let none = c.new-octets.ensures.items in (
      subst (λ (xs : List ℕ). GoesOn (file_work c.args.plan.now c.args.name.now) (rest_of c.args.plan.now xs)
          (g.F.Files.left c.begin.new.self) b m) (sym none)
          (file_begun c.args.plan.now c.args.name.now (g.F.Files.left c.args.files.now) (g.F.Files.left c.begin.new.self) b m e.begins
          (record { contents = e.contents; sound = e.soundness; taken = refl; write_faults = refl })),
      ap (λ (xs : List ℕ). is_capture xs) none,
    )

pub returns-in-Err-take : goal.returns-in-Err-take
returns-in-Err-take g c =
    let work : Work = file_work c.args.plan.now c.args.name.now in
    let b : Moment = moment g.F.Files.contents g.F.Files.sound g.F.Files.faults g.K.Sink.taken g.K.Sink.faults c.args.files.now
    c.args.out.now in
    let m : Moment = moment g.F.Files.contents g.F.Files.sound g.F.Files.faults g.K.Sink.taken g.K.Sink.faults c.loop-piece.files
    c.loop-piece.out in
    let a : Moment = moment g.F.Files.contents g.F.Files.sound g.F.Files.faults g.K.Sink.taken g.K.Sink.faults c.take.new.self
    c.loop-piece.out in
    let e = c.in-Err-take.ensures in
    file_fails work c.args.plan.now c.loop-piece.octets.items c.in-Err-take.fault c.stopped-in-Err-take.result c.take.new.buffer
    (g.F.Files.left c.loop-piece.files)
    (g.F.Files.left c.take.new.self) b m a c.loop-piece.invariant.0 e.takes
    (record { contents = e.contents; sound = e.soundness; taken = refl; write_faults = refl }) c.stopped-in-Err-take.ensures

-- a text
pub returns-then-taken-eq0 : goal.returns-then-taken-eq0
returns-then-taken-eq0 g c =
    let work : Work = file_work c.args.plan.now c.args.name.now in
    let b : Moment = moment g.F.Files.contents g.F.Files.sound g.F.Files.faults g.K.Sink.taken g.K.Sink.faults c.args.files.now
    c.args.out.now in
    let m : Moment = moment g.F.Files.contents g.F.Files.sound g.F.Files.faults g.K.Sink.taken g.K.Sink.faults c.loop-piece.files
    c.loop-piece.out in
    let a : Moment = moment g.F.Files.contents g.F.Files.sound g.F.Files.faults g.K.Sink.taken g.K.Sink.faults c.take.new.self
    c.loop-piece.out in
    let z : Moment = moment g.F.Files.contents g.F.Files.sound g.F.Files.faults g.K.Sink.taken g.K.Sink.faults c.take.new.self
    c.print_report.new.out in
    let e = c.in-Ok.ensures in
    let none : c.in-Ok.taken ≡ 0 = omega (arith, c.if-taken-eq0.true) in
    let few : length c.loop-piece.octets.items ≤ 1048576 = omega (arith, c.len.ensures, c.loop-piece-test.true) in
    text_printed work c.args.plan.now c.loop-piece.octets.items c.in-Ok.taken c.take.new.buffer (g.F.Files.left c.loop-piece.files)
    (g.F.Files.left c.take.new.self)
    c.print_report.result b m a z c.loop-piece.invariant.0 e.takes none
    (record { contents = e.contents; sound = e.soundness; taken = refl; write_faults = refl }) c.loop-piece.invariant.1 few
    (subst (λ (xs : List ℕ). Works (work_on c.args.plan.now (if_read (items_of xs))) c.print_report.result a z) c.deref.ensures.value
    (c.print_report.ensures a))

-- a piece was taken
pub returns-in_err-extend_from_slice : goal.returns-in_err-extend_from_slice
returns-in_err-extend_from_slice g c =
    let p = err_from_is_err_and c.from_residual.result c.from_residual.ensures.1 in
    let work : Work = file_work c.args.plan.now c.args.name.now in
    let b : Moment = moment g.F.Files.contents g.F.Files.sound g.F.Files.faults g.K.Sink.taken g.K.Sink.faults c.args.files.now
    c.args.out.now in
    let m : Moment = moment g.F.Files.contents g.F.Files.sound g.F.Files.faults g.K.Sink.taken g.K.Sink.faults c.loop-piece.files
    c.loop-piece.out in
    let a : Moment = moment g.F.Files.contents g.F.Files.sound g.F.Files.faults g.K.Sink.taken g.K.Sink.faults c.take.new.self
    c.loop-piece.out in
    let e = c.in-Ok.ensures in
    let piece : List ℕ = take c.in-Ok.taken c.take.new.buffer in
    let all : List ℕ = c.loop-piece.octets.items ++ piece in
    rw (p.1, p.2) (memory_wanting work (rest_of c.args.plan.now all) (g.F.Files.left c.take.new.self) b a
    (file_taken work c.args.plan.now c.loop-piece.octets.items all c.in-Ok.taken c.take.new.buffer piece (g.F.Files.left c.loop-piece.files)
    (g.F.Files.left c.take.new.self) b m a c.loop-piece.invariant.0 e.takes refl refl
    (record { contents = e.contents; sound = e.soundness; taken = refl; write_faults = refl })))

-- a capture
pub returns-then-is_capture : goal.returns-then-is_capture
returns-then-is_capture g c =
    let work : Work = file_work c.args.plan.now c.args.name.now in
    let b : Moment = moment g.F.Files.contents g.F.Files.sound g.F.Files.faults g.K.Sink.taken g.K.Sink.faults c.args.files.now
    c.args.out.now in
    let m : Moment = moment g.F.Files.contents g.F.Files.sound g.F.Files.faults g.K.Sink.taken g.K.Sink.faults c.loop-piece.files
    c.loop-piece.out in
    let a : Moment = moment g.F.Files.contents g.F.Files.sound g.F.Files.faults g.K.Sink.taken g.K.Sink.faults c.take.new.self
    c.loop-piece.out in
    let e = c.in-Ok.ensures in
    let piece : List ℕ = take c.in-Ok.taken c.take.new.buffer in
    let all : List ℕ = c.deref-then-is_capture.result.now in
    c.judge_capture.ensures b work
    (file_taken work c.args.plan.now c.loop-piece.octets.items all c.in-Ok.taken c.take.new.buffer piece (g.F.Files.left c.loop-piece.files)
    (g.F.Files.left c.take.new.self) b m a c.loop-piece.invariant.0 e.takes refl
    (c.deref-then-is_capture.ensures.value ∙ c.in_ok-extend_from_slice.ensures.items)
    (record { contents = e.contents; sound = e.soundness; taken = refl; write_faults = refl }))

pub loop-piece-preserved : goal.loop-piece-preserved
loop-piece-preserved g c =
    let work : Work = file_work c.args.plan.now c.args.name.now in
    let b : Moment = moment g.F.Files.contents g.F.Files.sound g.F.Files.faults g.K.Sink.taken g.K.Sink.faults c.args.files.now
    c.args.out.now in
    let m : Moment = moment g.F.Files.contents g.F.Files.sound g.F.Files.faults g.K.Sink.taken g.K.Sink.faults c.loop-piece.files
    c.loop-piece.out in
    let a : Moment = moment g.F.Files.contents g.F.Files.sound g.F.Files.faults g.K.Sink.taken g.K.Sink.faults c.take.new.self
    c.loop-piece.out in
    let e = c.in-Ok.ensures in
    let piece : List ℕ = take c.in-Ok.taken c.take.new.buffer in
    let all : List ℕ = c.extend_from_slice.new.self.items in (
      file_taken work c.args.plan.now c.loop-piece.octets.items all c.in-Ok.taken c.take.new.buffer piece
          (g.F.Files.left c.loop-piece.files) (g.F.Files.left c.take.new.self) b m a c.loop-piece.invariant.0 e.takes refl
          c.in_ok-extend_from_slice.ensures.items
          (record { contents = e.contents; sound = e.soundness; taken = refl; write_faults = refl }),
      sym (c.if-is_capture.ensures ∙ ap (λ (xs : List ℕ). is_capture xs) c.deref-in-loop-piece.ensures.value),
    )

-- a text that is too long
pub returns : goal.returns
returns g c =
    let work : Work = file_work c.args.plan.now c.args.name.now in
    let b : Moment = moment g.F.Files.contents g.F.Files.sound g.F.Files.faults g.K.Sink.taken g.K.Sink.faults c.args.files.now
    c.args.out.now in
    let m : Moment = moment g.F.Files.contents g.F.Files.sound g.F.Files.faults g.K.Sink.taken g.K.Sink.faults c.loop-piece.files
    c.loop-piece.out in
    let a : Moment = moment g.F.Files.contents g.F.Files.sound g.F.Files.faults g.K.Sink.taken g.K.Sink.faults c.loop-piece.files
    c.print_too_long.new.out in
    let long : 1048576 < length c.loop-piece.octets.items = omega (arith, c.len.ensures, c.loop-piece-test.false) in
    long_printed work c.args.plan.now c.loop-piece.octets.items (g.F.Files.left c.loop-piece.files) c.print_too_long.result b m a
    c.loop-piece.invariant.0 c.loop-piece.invariant.1 long (c.print_too_long.ensures m)
