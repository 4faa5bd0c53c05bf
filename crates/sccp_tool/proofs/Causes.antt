-- What is to be proved of a task: the causes of its answers, what its text says, and the files that it may read.
use Rattle.std.proofs.Common.{◌≡◌, ◌⊎◌, ℕ, List, Option, Some, None}
use Rattle.std.specs.Io.KnownBytes.{append_known}
use Rattle.sccp_io.specs.Files.{Contents}
use Rattle.sccp_work.specs.Ending.{Outcome}
use Rattle.sccp_work.specs.Moment.{Moment}
use Rattle.sccp_tool.specs.Run.{work_of, Cause, SureCause, TellsAnswer, TellsJourneys, HasNamedFiles}
use Rattle.sccp_tool.specs.Task.{Task}
use Rattle.sccp_work.specs.Verdict.{IsOnVerdict}
use Rattle.sccp_work.specs.Work.{Ends, HasFiles}
use Rattle.sccp_work.specs.declared.status.Status.{Status}
use Rattle.sccp_work.specs.declared.status.Status.TheVariants.{Refused, Usage, TooWide}

pub record Causes (task : Option Task) : Type 0 where
  -- the work ends with an answer only if the answer's cause holds
  pub only : (c : Contents) (s : Status) (text : List ℕ) → Ends (Some c) (work_of task) s text → Cause c task s
  -- no command has the usage line as its answer
  pub usage : (contents : Option Contents) (text : List ℕ) → Ends contents (work_of task) Usage text → task ≡ None
  -- if a cause gives an answer for sure, the work ends with no other
  pub always : (c : Contents) (t s : Status) (text : List ℕ) → SureCause c task t → Ends (Some c) (work_of task) s text → s ≡ t
  pub refused : (c : Contents) (s : Status) (text : List ℕ) → Cause c task Refused → Ends (Some c) (work_of task) s text
      → (s ≡ Refused) ⊎ (s ≡ TooWide)
  -- what is written on a verdict is its text
  pub tells : (c : Contents) (s : Status) (text : List ℕ) (taken taken' : Option (List ℕ)) → taken' ≡ append_known taken text
      → (IsOnVerdict s → Ends (Some c) (work_of task) s text) → TellsAnswer c task s taken taken'
  -- what is written of a replay gives the journey of each message
  pub journeys : (c : Contents) (s : Status) (b a : Moment) → b.contents ≡ Some c → Outcome (work_of task) s b a
      → TellsJourneys c task s b.taken a.taken
  -- the work reads no other files than those that the words and the trace name
  pub files : (c : Contents) → HasNamedFiles c task → HasFiles c (work_of task)
