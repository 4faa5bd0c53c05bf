-- What the call promises.
use Rattle.std.specs.Prelude.{◌≡◌, ◌≢◌, ◌⊎◌, ◌<◌, ◌-◌, ◌^◌, Option, None, IsTrue, IfSome}
use Rattle.sccp_io.specs.Faults.{Rose}
use Rattle.sccp_tool.specs.Run.{work_of, Cause, SureCause, TellsAnswer, TellsJourneys, HasNamedFiles, ExactlyWhere, ComesWhere}
use Rattle.sccp_tool.specs.Run.{RefusedWhere, IsFaultless, IsResult}
use Rattle.sccp_tool.specs.Task.{Task}
use Rattle.sccp_work.specs.Ending.{Outcome, IsCut}
use Rattle.sccp_work.specs.Moment.{Moment}
use Rattle.sccp_work.specs.Work.{HasFiles}
use Rattle.sccp_work.specs.declared.status.Status.{Status}
use Rattle.sccp_work.specs.declared.status.Status.TheVariants.{Done, Refused, Usage, BadPlan, BadTrace, TooWide, TooLong, OtherNodes}
use Rattle.sccp_work.specs.declared.status.Status.TheVariants.{BadCapture, Differs, ReadFault, WriteFault}

-- of a call with this task, if any, that gave this answer, between these two moments
pub record Promise (task : Option Task) (given : Status) (before after : Moment) : Type 0 where
  -- the answer, what the sink took, and what became of the files
  pub outcome : Outcome (work_of task) given before after
  -- what the text says of a plan, of two plans, or of a file of DATA messages
  pub tells : IfSome before.contents (λ c. TellsAnswer c task given before.taken after.taken)
  -- the journey of each message of a replay, the lines of a capture, or what is said of messages that are judged
  pub journeys : IfSome before.contents (λ c. TellsJourneys c task given before.taken after.taken)
  -- the cause of each answer
  pub done : IfSome before.contents (λ c. ComesWhere Done given (Cause c task Done) (SureCause c task Done))
  pub refused : IfSome before.contents (λ c. RefusedWhere given (Cause c task Refused))
  pub too_wide : IfSome before.contents (λ c. given ≡ TooWide → Cause c task TooWide)
  pub usage : ExactlyWhere Usage given (task ≡ None)
  pub bad_plan : IfSome before.contents (λ c. ComesWhere BadPlan given (Cause c task BadPlan) (SureCause c task BadPlan))
  pub bad_trace : IfSome before.contents (λ c. ComesWhere BadTrace given (Cause c task BadTrace) (SureCause c task BadTrace))
  pub too_long : IfSome before.contents (λ c. ComesWhere TooLong given (Cause c task TooLong) (SureCause c task TooLong))
  pub other_nodes : IfSome before.contents (λ c. ComesWhere OtherNodes given (Cause c task OtherNodes) (SureCause c task OtherNodes))
  pub bad_capture : IfSome before.contents (λ c. ComesWhere BadCapture given (Cause c task BadCapture) (SureCause c task BadCapture))
  pub differs : IfSome before.contents (λ c. ComesWhere Differs given (Cause c task Differs) (SureCause c task Differs))
  -- If nothing is wrong with the words and the files that they name, the answer is one on what was asked, but for a fault or want of
  -- memory.
  pub complete : IfSome before.contents (λ c. IsFaultless c task → IsResult given ⊎ IsCut given)
  pub read_fault : given ≡ ReadFault → Rose before.read_faults after.read_faults
  pub write_fault : given ≡ WriteFault → Rose before.write_faults after.write_faults
  -- sound files that have each file which the work may read do not fail
  pub sound : IsTrue before.sound → IfSome before.contents (λ c. HasFiles c (work_of task)
      → (after.read_faults ≡ before.read_faults) × (before.read_faults < 2 ^ 64 - 1 → given ≢ ReadFault))
  -- nor do those that have each file which the words name, or a line of the trace as a later plan
  pub named : IsTrue before.sound → IfSome before.contents (λ c. HasNamedFiles c task
      → (after.read_faults ≡ before.read_faults) × (before.read_faults < 2 ^ 64 - 1 → given ≢ ReadFault))
