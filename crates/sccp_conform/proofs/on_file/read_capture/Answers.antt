use Rattle.std.proofs.Common.{◌++◌, List, ℕ}
use Rattle.std.proofs.lemmas.Result.{err_from_is_err_and}
use Rattle.sccp_conform.proofs.OnFileLemmas.{next_of, capture_stops}
use Rattle.sccp_conform.specs.Steps.{with_files}
use Rattle.sccp_work.proofs.PieceLemmas.{memory_wanting}
use Rattle.sccp_work.specs.Moment.{Moment}
use Rattle.watch_items.specs.Captures.{Heard}
use Rattle.sccp_conform.proofs.on_file.read_capture.Goals as goal

pub returns-in_err-stops : goal.returns-in_err-stops
returns-in_err-stops g c = λ any first work whole is goes.
    let p = err_from_is_err_and c.from_residual.result c.from_residual.ensures.1 in
    let m : Moment = with_files any g.F.Files.contents g.F.Files.sound g.F.Files.faults c.args.files.now in
    rw (p.1, p.2) (memory_wanting work (next_of c.args.plan.now (λ rest. whole (c.args.front.now ++ rest)))
    (g.F.Files.left c.args.files.now) first m goes)

pub returns-then-stops : goal.returns-then-stops
returns-then-stops g c = λ any first work whole is goes.
    let m : Moment = with_files any g.F.Files.contents g.F.Files.sound g.F.Files.faults c.args.files.now in
    let after : List ℕ → Heard = λ rest. whole (c.args.front.now ++ rest) in
    let partly = c.in_ok-stops.ensures.goes_on whole is in (
      after,
      partly,
      capture_stops work c.args.plan.now after partly.done c.feed.new.self.capture (g.F.Files.left c.args.files.now) first m
          goes partly.goes_on (c.in_ok-stops.ensures.stops c.if-stops.true),
    )

pub returns : goal.returns
returns g c = λ any first work whole is goes.
    c.feed_all.ensures any first work (λ rest. whole (c.args.front.now ++ rest)) (c.in_ok-stops.ensures.goes_on whole is) goes
