use Rattle.std.proofs.Common.{◌≡◌, ◌++◌, List, ℕ, take, refl, arith}
use Rattle.std.proofs.lemmas.Result.{err_from_is_err_and}
use Rattle.sccp_conform.proofs.OnFileLemmas.{next_of, capture_fails, capture_taken, capture_ends, capture_stops}
use Rattle.sccp_conform.specs.Steps.{with_files}
use Rattle.sccp_work.proofs.PieceLemmas.{memory_wanting}
use Rattle.sccp_work.specs.Moment.{Moment}
use Rattle.watch_items.specs.Captures.{Heard}
use Rattle.sccp_conform.proofs.on_file.feed_all.Goals as goal

pub loop-turn-init : goal.loop-turn-init
loop-turn-init g c = λ any first work whole is goes. (whole, is, goes)

pub returns-in-Err : goal.returns-in-Err
returns-in-Err g c = λ any first work whole is goes.
    let b : Moment = with_files any g.F.Files.contents g.F.Files.sound g.F.Files.faults c.loop-turn.files in
    let m : Moment = with_files any g.F.Files.contents g.F.Files.sound g.F.Files.faults c.take.new.self in
    let now = c.loop-turn.invariant any first work whole is goes in
    let e = c.in-Err.ensures in
    capture_fails work c.args.plan.now now.0 c.in-Err.fault c.stopped.result c.take.new.buffer (g.F.Files.left c.loop-turn.files)
    (g.F.Files.left c.take.new.self) first b m now.2 e.takes
    (record { contents = e.contents; sound = e.soundness; taken = refl; write_faults = refl }) c.stopped.ensures

pub returns-then-taken-eq0 : goal.returns-then-taken-eq0
returns-then-taken-eq0 g c = λ any first work whole is goes.
    let b : Moment = with_files any g.F.Files.contents g.F.Files.sound g.F.Files.faults c.loop-turn.files in
    let m : Moment = with_files any g.F.Files.contents g.F.Files.sound g.F.Files.faults c.take.new.self in
    let now = c.loop-turn.invariant any first work whole is goes in
    let e = c.in-Ok.ensures in
    let none : c.in-Ok.taken ≡ 0 = omega (arith, c.if-taken-eq0.true) in (
      now.0,
      now.1,
      capture_ends work c.args.plan.now now.0 c.in-Ok.taken c.take.new.buffer (g.F.Files.left c.loop-turn.files)
          (g.F.Files.left c.take.new.self) first b m now.2 e.takes none
          (record { contents = e.contents; sound = e.soundness; taken = refl; write_faults = refl }),
    )

pub returns : goal.returns
returns g c = λ any first work whole is goes.
    let m : Moment = with_files any g.F.Files.contents g.F.Files.sound g.F.Files.faults c.loop-turn.files in
    let now = c.loop-turn.invariant any first work whole is goes in
    memory_wanting work (next_of c.args.plan.now now.0) (g.F.Files.left c.loop-turn.files) first m now.2

-- the piece was taken; what the file gives after it
pub loop-turn-preserved : goal.loop-turn-preserved
loop-turn-preserved g c = λ any first work whole is goes.
    let b : Moment = with_files any g.F.Files.contents g.F.Files.sound g.F.Files.faults c.loop-turn.files in
    let m : Moment = with_files any g.F.Files.contents g.F.Files.sound g.F.Files.faults c.take.new.self in
    let now = c.loop-turn.invariant any first work whole is goes in
    let e = c.in-Ok.ensures in
    let piece : List ℕ = take c.in-Ok.taken c.take.new.buffer in
    let after : List ℕ → Heard = λ rest. now.0 (piece ++ rest) in (
      after,
      c.in_ok-stops.ensures.goes_on now.0 now.1,
      capture_taken work c.args.plan.now now.0 c.in-Ok.taken c.take.new.buffer piece
          (g.F.Files.left c.loop-turn.files) (g.F.Files.left c.take.new.self) first b m now.2 e.takes refl
          (record { contents = e.contents; sound = e.soundness; taken = refl; write_faults = refl }),
    )

pub returns-in_err-stops : goal.returns-in_err-stops
returns-in_err-stops g c = λ any first work whole is goes.
    let p = err_from_is_err_and c.from_residual.result c.from_residual.ensures.1 in
    let b : Moment = with_files any g.F.Files.contents g.F.Files.sound g.F.Files.faults c.loop-turn.files in
    let m : Moment = with_files any g.F.Files.contents g.F.Files.sound g.F.Files.faults c.take.new.self in
    let now = c.loop-turn.invariant any first work whole is goes in
    let e = c.in-Ok.ensures in
    let piece : List ℕ = take c.in-Ok.taken c.take.new.buffer in
    rw (p.1, p.2) (memory_wanting work (next_of c.args.plan.now (λ rest. now.0 (piece ++ rest))) (g.F.Files.left c.take.new.self) first m
    (capture_taken work c.args.plan.now now.0 c.in-Ok.taken c.take.new.buffer piece (g.F.Files.left c.loop-turn.files)
    (g.F.Files.left c.take.new.self) first b m now.2 e.takes refl
    (record { contents = e.contents; sound = e.soundness; taken = refl; write_faults = refl })))

pub returns-then-stops : goal.returns-then-stops
returns-then-stops g c = λ any first work whole is goes.
    let b : Moment = with_files any g.F.Files.contents g.F.Files.sound g.F.Files.faults c.loop-turn.files in
    let m : Moment = with_files any g.F.Files.contents g.F.Files.sound g.F.Files.faults c.take.new.self in
    let now = c.loop-turn.invariant any first work whole is goes in
    let e = c.in-Ok.ensures in
    let piece : List ℕ = take c.in-Ok.taken c.take.new.buffer in
    let after : List ℕ → Heard = λ rest. now.0 (piece ++ rest) in
    let partly = c.in_ok-stops.ensures.goes_on now.0 now.1 in (
      after,
      partly,
      capture_stops work c.args.plan.now after partly.done c.feed.new.self.capture (g.F.Files.left c.take.new.self) first m
          (capture_taken work c.args.plan.now now.0 c.in-Ok.taken c.take.new.buffer piece (g.F.Files.left c.loop-turn.files)
          (g.F.Files.left c.take.new.self) first b m now.2 e.takes refl
          (record { contents = e.contents; sound = e.soundness; taken = refl; write_faults = refl }))
          partly.goes_on (c.in_ok-stops.ensures.stops c.if-stops.true),
    )
