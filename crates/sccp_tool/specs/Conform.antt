-- The command that judges captured messages against a plan.
use Rattle.std.specs.Prelude.{◌≡◌, ◌⊎◌, ℕ, true, false, List, [], ◌∷◌, Option, Some, None, option_map, option_and_then, Ok, IsErr}
use Rattle.plan_model.specs.Network.{Network}
use Rattle.plan_model.specs.declared.limits.Limits.{Limits}
use Rattle.relay_watch.specs.Differing.{differs}
use Rattle.sccp_conform.specs.Meaning.{AreTrue, HasJudgement}
use Rattle.sccp_conform.specs.Reports.{file_work, is_long_text, report_text}
use Rattle.sccp_io.specs.Files.{Contents, Reads}
use Rattle.sccp_tool.specs.Capture.{IsDamaged}
use Rattle.sccp_tool.specs.Task.{Task, Conform}
use Rattle.sccp_work.specs.Judgement.{Judgement, IsJudgement}
use Rattle.sccp_work.specs.Limit.{HasLongFile}
use Rattle.sccp_work.specs.PlanFile.{PlanFile, plan_file}
use Rattle.sccp_work.specs.Plans.{with_plan, HasPlan, HasBadPlan}
use Rattle.sccp_work.specs.Work.{Work}
use Rattle.sccp_work.specs.declared.status.Status.{Status}
use Rattle.sccp_work.specs.declared.status.Status.TheVariants.{Done, Differs, BadCapture, BadPlan, BadTrace, TooLong}
use Rattle.trace_text.specs.Forms.{file_name}
use Rattle.watch_items.specs.Captures.{Heard}
use Rattle.watch_items.specs.Files.{heard_in}
use Rattle.watch_items.specs.Front.{is_capture}
use Rattle.watch_items.specs.Items.{events_in}

unfoldable pub conform_of : Limits → List ℕ → List ℕ → Option Task
conform_of limits plan file = option_and_then (λ p. option_map (Conform (plan_file p limits)) (file_name file)) (file_name plan)

-- PLAN FILE
unfoldable pub conform_words : Limits → List (List ℕ) → Option Task
conform_words limits (plan ∷ file ∷ []) = conform_of limits plan file
conform_words limits words = None

-- The plan is read first, and not verified. The file is read and judged whole before anything is printed.
abbrev pub conform_work : PlanFile → List ℕ → Work
conform_work plan file = with_plan plan (λ p. file_work p file)

-- the plan file has a plan, the file of messages is there, and this holds of both
abbrev pub HasSeen : Option Contents → PlanFile → List ℕ → (Network → List ℕ → Type 0) → Type 0
HasSeen contents plan file holds = HasPlan contents plan (λ p. (octets : List ℕ) × Reads contents file octets × holds p octets)

-- a capture, or a text within the limit
abbrev pub IsShort : List ℕ → Type 0
IsShort octets = is_long_text octets ≡ false

-- the file is a capture that cannot be read from some place on
abbrev pub IsBadCapture : List ℕ → Type 0
IsBadCapture octets = (is_capture octets ≡ true) × IsDamaged octets

-- No message of a judgement is unexplained, or one is. All judgements on the same messages agree on that.
abbrev pub NoneDiffers : Judgement → Type 0
NoneDiffers j = differs j.lines ≡ false

abbrev pub OneDiffers : Judgement → Type 0
OneDiffers j = differs j.lines ≡ true

-- the file is no damaged capture, it reads, and this holds of a judgement on its messages
abbrev pub IsJudgedSo : (Judgement → Type 0) → Network → List ℕ → Type 0
IsJudgedSo holds p octets = IsShort octets × (IsBadCapture octets → ⊥) × HasJudgement p octets holds

-- the cause of each answer
abbrev pub ConformCause : Option Contents → PlanFile → List ℕ → Status → Type 0
ConformCause contents plan file Done = HasSeen contents plan file (IsJudgedSo NoneDiffers)
ConformCause contents plan file Differs = HasSeen contents plan file (IsJudgedSo OneDiffers)
ConformCause contents plan file BadCapture = HasSeen contents plan file (λ p octets. IsBadCapture octets)
ConformCause contents plan file BadTrace = HasSeen contents plan file (λ p octets. IsShort octets × IsErr (heard_in octets))
ConformCause contents plan file BadPlan = HasBadPlan contents plan
ConformCause contents plan file TooLong =
    HasLongFile contents plan ⊎ HasSeen contents plan file (λ p octets. is_long_text octets ≡ true)
ConformCause contents plan file answer = ⊥

-- The text has a line for each message, and for each thing in the file that is not one. What it says of the messages is true.
pub record TellsJudgement (plan : Network) (octets text : List ℕ) : Type 0 where
  pub short : IsShort octets
  pub heard : Heard
  pub read : heard_in octets ≡ Ok heard
  pub judgement : Judgement
  pub is : IsJudgement plan (events_in heard.items) judgement
  pub text_is : text ≡ report_text plan heard.items judgement
  pub is_true : AreTrue plan (events_in heard.items) judgement

-- under Done, Differs and BadCapture the sink took the text of a judgement on the messages of the file
abbrev pub ConformTells : Contents → PlanFile → List ℕ → Status → List ℕ → Type 0
ConformTells c plan file Done text = HasSeen (Some c) plan file (λ p octets. TellsJudgement p octets text)
ConformTells c plan file Differs text = HasSeen (Some c) plan file (λ p octets. TellsJudgement p octets text)
ConformTells c plan file BadCapture text = HasSeen (Some c) plan file (λ p octets. TellsJudgement p octets text)
ConformTells c plan file answer text = Unit {0}
