use Rattle.std.proofs.Common.{[]}
use Rattle.std.proofs.lemmas.Result.{err_from_is_err_and}
use Rattle.sccp_conform.proofs.OnFileLemmas.{capture_begins, capture_printed, rest_of}
use Rattle.sccp_work.proofs.PieceLemmas.{memory_wanting}
use Rattle.sccp_work.specs.Moment.{Moment, moment}
use Rattle.watch_items.proofs.FrontLemmas.{four}
use Rattle.watch_items.specs.Captures.{heard}
use Rattle.sccp_conform.proofs.on_file.judge_capture.Goals as goal

pub returns-in-Ok : goal.returns-in-Ok
returns-in-Ok g c = λ first work goes.
    let b : Moment = moment g.F.Files.contents g.F.Files.sound g.F.Files.faults g.K.Sink.taken g.K.Sink.faults c.args.files.now
    c.args.out.now in
    let m : Moment = moment g.F.Files.contents g.F.Files.sound g.F.Files.faults g.K.Sink.taken g.K.Sink.faults c.read_capture.new.files
    c.args.out.now in
    let a : Moment = moment g.F.Files.contents g.F.Files.sound g.F.Files.faults g.K.Sink.taken g.K.Sink.faults c.read_capture.new.files
    c.print_end.new.out in
    let begins = capture_begins work c.args.plan.now c.args.front.now (g.F.Files.left c.args.files.now) first b c.requires
    (four c.args.front.now c.requires) goes in
    let all = c.in-Ok.ensures b first work heard c.in_ok-partly.ensures begins in
    capture_printed work c.args.plan.now (all.0 []) c.print_end.result first m a all.2 (c.print_end.ensures m all.0 all.1)

pub returns-in-Err : goal.returns-in-Err
returns-in-Err g c = λ first work goes.
    let b : Moment = moment g.F.Files.contents g.F.Files.sound g.F.Files.faults g.K.Sink.taken g.K.Sink.faults c.args.files.now
    c.args.out.now in
    let begins = capture_begins work c.args.plan.now c.args.front.now (g.F.Files.left c.args.files.now) first b c.requires
    (four c.args.front.now c.requires) goes in
    c.in-Err.ensures b first work heard c.in_ok-partly.ensures begins

pub returns-in_err-partly : goal.returns-in_err-partly
returns-in_err-partly g c = λ first work goes.
    let p = err_from_is_err_and c.from_residual.result c.from_residual.ensures.1 in
    let b : Moment = moment g.F.Files.contents g.F.Files.sound g.F.Files.faults g.K.Sink.taken g.K.Sink.faults c.args.files.now
    c.args.out.now in
    rw (p.1, p.2) (memory_wanting work (rest_of c.args.plan.now c.args.front.now) (g.F.Files.left c.args.files.now) first b goes)
