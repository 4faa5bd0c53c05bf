use Rattle.std.proofs.Common.{refl, Option}
use Rattle.sccp_tool.specs.Commands.{task_of, texts}
use Rattle.sccp_work.specs.Ending.{Outcome}
use Rattle.sccp_work.specs.Moment.{Moment, moment}
use Rattle.sccp_tool.specs.Run.{work_of}
use Rattle.sccp_tool.specs.Task.{Task}
use Rattle.sccp_tool.proofs.RunLemmas.{answer_told, journeys_told, done_cause, refused_cause, wide_cause, usage_cause, bad_plan_cause}
use Rattle.sccp_tool.proofs.RunLemmas.{bad_line_cause, bad_capture_cause, long_cause, other_nodes_cause, read_cause, write_cause}
use Rattle.sccp_tool.proofs.RunLemmas.{complete_told, differs_cause, sound_cause, named_cause}
use Rattle.sccp_tool.proofs.TaskWords.{IsOfWords, of_words}
use Rattle.sccp_work.proofs.WorkLemmas.{Outcome-closed}
use Rattle.sccp_tool.proofs.program.run_gated.Goals as goal

pub returns : goal.returns
returns g c =
    let task : Option Task = task_of (texts c.args.words.now) in
    let words : IsOfWords task = of_words (texts c.args.words.now) in
    let b : Moment = moment g.F.Files.contents g.F.Files.sound g.F.Files.faults g.K.Sink.taken g.K.Sink.faults c.args.files.now
    c.args.out.now in
    let a : Moment = moment g.F.Files.contents g.F.Files.sound g.F.Files.faults g.K.Sink.taken g.K.Sink.faults c.carry_out-worked.new.files
    c.close.new.out in
    let m : Moment = moment g.F.Files.contents g.F.Files.sound g.F.Files.faults g.K.Sink.taken g.K.Sink.faults c.carry_out-worked.new.files
    c.carry_out-worked.new.out in
    let o : Outcome (work_of task) c.close.result b a =
    Outcome-closed (work_of task) c.carry_out-worked.result c.close.result b m a c.carry_out-worked.ensures c.close.ensures refl refl
    refl in
    record {
      outcome = o;
      tells = answer_told task words c.close.result b a o;
      journeys = journeys_told task words c.close.result b a o;
      done = done_cause task words c.close.result b a o;
      refused = refused_cause task words c.close.result b a o;
      too_wide = wide_cause task words c.close.result b a o;
      usage = usage_cause task words c.close.result b a o;
      bad_plan = bad_plan_cause task words c.close.result b a o;
      bad_trace = bad_line_cause task words c.close.result b a o;
      too_long = long_cause task words c.close.result b a o;
      other_nodes = other_nodes_cause task words c.close.result b a o;
      bad_capture = bad_capture_cause task words c.close.result b a o;
      differs = differs_cause task words c.close.result b a o;
      complete = complete_told task words c.close.result b a o;
      read_fault = read_cause task words c.close.result b a o;
      write_fault = write_cause task words c.close.result b a o;
      sound = sound_cause task words c.close.result b a o;
      named = named_cause task words c.close.result b a o;
    }
