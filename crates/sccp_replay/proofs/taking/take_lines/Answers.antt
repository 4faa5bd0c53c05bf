use Rattle.std.proofs.Common.{◌≡◌, ◌+◌, ◌∙◌, ◌∷◌, ◌++◌, [], List, length, drop, ap, subst, length-append}
use Rattle.std.proofs.lemmas.Iterator.Adapters.{YieldsList-from_vec}
use Rattle.std.proofs.lemmas.Iterator.Consumers.{YieldsList-turn, YieldsList-end}
use Rattle.std.proofs.lemmas.Result.{err_from_is_err_and}
use Rattle.trace_text.specs.declared.line.Numbered.{Numbered}
use Rattle.sccp_replay.specs.Gathering.{HasTaken, lines_in}
use Rattle.sccp_work.specs.Moment.{Moment, moment}
use Rattle.sccp_replay.proofs.BatchSteps.{dropped}
use Rattle.sccp_replay.proofs.Gathering.{may_go_on, more_taken}
use Rattle.sccp_replay.proofs.TakeSteps.{LinesLeft, line_taken, line_stopped}
use Rattle.sccp_replay.proofs.taking.take_lines.Goals as goal

pub take_line-requires-clause-begun : goal.take_line-requires-clause-begun
take_line-requires-clause-begun g c κs within =
    let v = c.into_vec-line-items in
    let it = c.into_iter-line-iterator in
    let t = YieldsList-turn (YieldsList-from_vec {s = it.result} c.args.lines (it.ensures.into_iter_gives.0
    ∙ v.ensures) (it.ensures.into_iter_gives.1 ∙ v.result.ok.0
    ∙ ap length v.ensures)) c.loop-line.yielded c.loop-line.line-iterator c.loop-line.yielded_by _ c.next.new.self c.in-Some.line
    c.in-Some.is c.next.ensures.steps in
    may_go_on (length c.args.lines)
    (length c.loop-line.yielded) c.args.at.now c.loop-line.at c.args.batch.now c.loop-line.batch c.requires c.loop-line.invariant.begun
    t.0

pub returns-in_err-take_line-clause-takes : goal.returns-in_err-take_line-clause-takes
returns-in_err-take_line-clause-takes g c =
    let v = c.into_vec-line-items in
    let it = c.into_iter-line-iterator in
    let p = err_from_is_err_and c.from_residual.result c.from_residual.ensures.1 in
    let t = YieldsList-turn (YieldsList-from_vec {s = it.result} c.args.lines (it.ensures.into_iter_gives.0
    ∙ v.ensures) (it.ensures.into_iter_gives.1 ∙ v.result.ok.0
    ∙ ap length v.ensures)) c.loop-line.yielded c.loop-line.line-iterator c.loop-line.yielded_by _ c.next.new.self c.in-Some.line
    c.in-Some.is c.next.ensures.steps in
    let b : Moment = moment g.F.Files.contents g.F.Files.sound g.F.Files.faults g.K.Sink.taken g.K.Sink.faults c.args.files.now
    c.args.out.now in
    let m : Moment = moment g.F.Files.contents g.F.Files.sound g.F.Files.faults g.K.Sink.taken g.K.Sink.faults c.loop-line.files
    c.loop-line.out in
    let a : Moment = moment g.F.Files.contents g.F.Files.sound g.F.Files.faults g.K.Sink.taken g.K.Sink.faults c.take_line.new.files
    c.take_line.new.out in
    let left : List Numbered = drop (length c.loop-line.yielded + 1) c.args.lines in
    rw (p.1, p.2) (line_stopped c.args.at.now c.loop-line.at c.take_line.new.at (lines_in c.args.batch.now) (lines_in c.loop-line.batch)
    (lines_in c.take_line.new.batch) c.args.lines left c.in-Some.line c.in_err-take_line.field-0.0 b m a
    (subst (λ l. LinesLeft c.args.at.now (lines_in c.args.batch.now) c.args.lines c.loop-line.at (lines_in c.loop-line.batch) l b m)
    (dropped c.args.lines (length c.loop-line.yielded) c.in-Some.line t.0 t.1) c.loop-line.invariant.lines)
    c.in_err-take_line.ensures.takes)

pub loop-line-preserved : goal.loop-line-preserved
loop-line-preserved g c =
    let v = c.into_vec-line-items in
    let it = c.into_iter-line-iterator in
    let t = YieldsList-turn (YieldsList-from_vec {s = it.result} c.args.lines (it.ensures.into_iter_gives.0
    ∙ v.ensures) (it.ensures.into_iter_gives.1 ∙ v.result.ok.0
    ∙ ap length v.ensures)) c.loop-line.yielded c.loop-line.line-iterator c.loop-line.yielded_by _ c.next.new.self c.in-Some.line
    c.in-Some.is c.next.ensures.steps in
    let b : Moment = moment g.F.Files.contents g.F.Files.sound g.F.Files.faults g.K.Sink.taken g.K.Sink.faults c.args.files.now
    c.args.out.now in
    let m : Moment = moment g.F.Files.contents g.F.Files.sound g.F.Files.faults g.K.Sink.taken g.K.Sink.faults c.loop-line.files
    c.loop-line.out in
    let a : Moment = moment g.F.Files.contents g.F.Files.sound g.F.Files.faults g.K.Sink.taken g.K.Sink.faults c.take_line.new.files
    c.take_line.new.out in
    let left : List Numbered = drop (length c.loop-line.yielded + 1) c.args.lines in
    let more : length (c.loop-line.yielded ++ c.in-Some.line ∷ []) ≡ length c.loop-line.yielded + 1 =
    length-append c.loop-line.yielded (c.in-Some.line ∷ []) in
    record {
      lines = rw more (line_taken c.args.at.now c.loop-line.at c.take_line.new.at (lines_in c.args.batch.now) (lines_in c.loop-line.batch)
          (lines_in c.take_line.new.batch) c.args.lines left c.in-Some.line b m a
          (subst (λ l. LinesLeft c.args.at.now (lines_in c.args.batch.now) c.args.lines c.loop-line.at (lines_in c.loop-line.batch) l b m)
          (dropped c.args.lines (length c.loop-line.yielded) c.in-Some.line t.0 t.1) c.loop-line.invariant.lines)
          c.in_ok-take_line.ensures.takes);
      begun = rw more (more_taken
          (length c.loop-line.yielded) c.args.at.now c.loop-line.at c.take_line.new.at c.args.batch.now c.loop-line.batch
          c.take_line.new.batch c.loop-line.invariant.begun c.in_ok-take_line.ensures.begun);
      left = c.in_ok-take_line.ensures.left ∙ c.loop-line.invariant.left;
    }

pub returns-clause-begun : goal.returns-clause-begun
returns-clause-begun g c =
    let v = c.into_vec-line-items in
    let it = c.into_iter-line-iterator in
    let e = YieldsList-end (YieldsList-from_vec {s = it.result} c.args.lines (it.ensures.into_iter_gives.0
    ∙ v.ensures) (it.ensures.into_iter_gives.1 ∙ v.result.ok.0
    ∙ ap length v.ensures)) c.loop-line.yielded c.loop-line.line-iterator c.loop-line.yielded_by _ c.next.new.self c.in-None.is
    c.next.ensures.steps in
    subst (λ n. HasTaken n c.args.at.now c.args.batch.now c.loop-line.at c.loop-line.batch) e.1 c.loop-line.invariant.begun
