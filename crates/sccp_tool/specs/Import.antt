-- The command that makes a trace of a file of DATA messages.
use Rattle.std.specs.Prelude.{◌≡◌, ◌⊎◌, ℕ, List, [], ◌∷◌, Option, None, option_map, option_and_then, IsOk, IsErr}
use Rattle.std.specs.Io.KnownBytes.{append_known}
use Rattle.m3ua_trace.specs.Traces.{trace_of, IsTraceOf}
use Rattle.plan_model.specs.declared.limits.Limits.{Limits}
use Rattle.plan_model.specs.Network.{Network}
use Rattle.sccp_io.specs.Files.{Contents}
use Rattle.trace_text.specs.Forms.{file_name}
use Rattle.sccp_work.specs.Limit.{within_limit, HasFile, HasLongFile}
use Rattle.sccp_work.specs.PlanFile.{PlanFile, plan_file, plain}
use Rattle.sccp_work.specs.Plans.{with_plan, HasPlan, HasBadPlan}
use Rattle.sccp_tool.specs.Show.{answer_for}
use Rattle.sccp_tool.specs.Task.{Task, Import}
use Rattle.sccp_work.specs.Work.{Work, answered}
use Rattle.sccp_work.specs.declared.status.Status.{Status}
use Rattle.sccp_work.specs.declared.status.Status.TheVariants.{Done, BadPlan, BadTrace, TooLong}

unfoldable pub import_of : Limits → List ℕ → List ℕ → Option Task
import_of limits plan file = option_and_then (λ p. option_map (Import (plan_file p limits)) (file_name file)) (file_name plan)

-- PLAN FILE
unfoldable pub import_words : Limits → List (List ℕ) → Option Task
import_words limits (plan ∷ file ∷ []) = import_of limits plan file
import_words limits words = None

-- the answer and the text for a file of these octets
abbrev pub import_answer : Network → List ℕ → Status × List ℕ
import_answer plan octets = answer_for (trace_of plan octets)

-- the file is read and checked whole before anything is printed
abbrev pub trace_work : Network → List ℕ → Work
trace_work plan file = within_limit (plain file) (λ octets. answered (import_answer plan octets))

-- the plan is read first, and not verified
abbrev pub import_work : PlanFile → List ℕ → Work
import_work plan file = with_plan plan (λ p. trace_work p file)

-- the plan file has a plan, and the file is within the limit, and this holds of both
abbrev pub HasBoth : Option Contents → PlanFile → List ℕ → (Network → List ℕ → Type 0) → Type 0
HasBoth contents plan file holds = HasPlan contents plan (λ p. HasFile contents (plain file) (holds p))

-- the cause of each answer
abbrev pub ImportCause : Option Contents → PlanFile → List ℕ → Status → Type 0
ImportCause contents plan file Done = HasBoth contents plan file (λ p octets. IsOk (trace_of p octets))
ImportCause contents plan file BadTrace = HasBoth contents plan file (λ p octets. IsErr (trace_of p octets))
ImportCause contents plan file BadPlan = HasBadPlan contents plan
ImportCause contents plan file TooLong = HasLongFile contents plan ⊎ HasPlan contents plan (λ p. HasLongFile contents (plain file))
ImportCause contents plan file answer = ⊥

-- the sink took a trace without a faulty line, whose lines are the messages that the file carries, or are skipped
abbrev pub ImportTells : Option Contents → PlanFile → List ℕ → Status → Option (List ℕ) → Option (List ℕ) → Type 0
ImportTells contents plan file given taken taken' =
    given ≡ Done → HasBoth contents plan file (λ p octets. (text : List ℕ) × (taken' ≡ append_known taken text) × IsTraceOf p octets text)
