-- The command that prints the lines of a capture file.
use Rattle.std.specs.Prelude.{◌≡◌, ◌⊎◌, ℕ, true, List, [], ◌∷◌, ◌++◌, Option, Some, None, option_map, option_and_then}
use Rattle.capture_file.specs.Told.{told}
use Rattle.capture_file.specs.declared.file_fault.Damage.{Damage}
use Rattle.capture_file.specs.declared.file_fault.FileFault.TheVariants.{Damaged}
use Rattle.capture_trace.specs.Traced.{lines_of_capture}
use Rattle.capture_trace.specs.Words.{text_of_lines}
use Rattle.plan_model.specs.declared.limits.Limits.{Limits}
use Rattle.plan_model.specs.Network.{Network}
use Rattle.sccp_capture.specs.Printing.{file_work}
use Rattle.sccp_io.specs.Files.{Contents, Reads}
use Rattle.sccp_work.specs.Limit.{HasLongFile}
use Rattle.sccp_work.specs.PlanFile.{PlanFile, plan_file}
use Rattle.sccp_work.specs.Plans.{with_plan, HasPlan, HasBadPlan}
use Rattle.sccp_work.specs.Texts.{read_fault}
use Rattle.sccp_tool.specs.Task.{Task, Capture}
use Rattle.sccp_work.specs.Work.{Work}
use Rattle.sccp_work.specs.declared.status.Status.{Status}
use Rattle.sccp_work.specs.declared.status.Status.TheVariants.{Done, BadPlan, BadCapture, TooLong, ReadFault}
use Rattle.trace_text.specs.Forms.{file_name}

unfoldable pub capture_of : Limits → List ℕ → List ℕ → Option Task
capture_of limits plan file = option_and_then (λ p. option_map (Capture (plan_file p limits)) (file_name file)) (file_name plan)

-- PLAN FILE
unfoldable pub capture_words : Limits → List (List ℕ) → Option Task
capture_words limits (plan ∷ file ∷ []) = capture_of limits plan file
capture_words limits words = None

-- The plan is read first, and not verified. The capture is read in pieces, and has no limit.
abbrev pub capture_work : PlanFile → List ℕ → Work
capture_work plan file = with_plan plan (λ p. file_work p file)

-- the plan file has a plan, the capture is there, and this holds of both
abbrev pub HasCapture : Option Contents → PlanFile → List ℕ → (Network → List ℕ → Type 0) → Type 0
HasCapture contents plan file holds = HasPlan contents plan (λ p. (octets : List ℕ) × Reads contents file octets × holds p octets)

-- a capture with these octets cannot be read from some place on
abbrev pub IsDamaged : List ℕ → Type 0
IsDamaged octets = (place : ℕ) × (why : Damage) × ((told true octets).fault ≡ Some (Damaged place why))

-- the cause of each answer
abbrev pub CaptureCause : Option Contents → PlanFile → List ℕ → Status → Type 0
CaptureCause contents plan file Done = HasCapture contents plan file (λ p octets. IsDamaged octets → ⊥)
CaptureCause contents plan file BadCapture = HasCapture contents plan file (λ p octets. IsDamaged octets)
CaptureCause contents plan file BadPlan = HasBadPlan contents plan
CaptureCause contents plan file TooLong = HasLongFile contents plan
CaptureCause contents plan file answer = ⊥

-- ---- what is written

-- the lines of the whole capture
abbrev pub IsWholeText : Contents → PlanFile → List ℕ → List ℕ → Type 0
IsWholeText c plan file text = HasCapture (Some c) plan file (λ p octets. text ≡ text_of_lines (lines_of_capture p octets))

-- the first lines of the capture
abbrev pub IsFrontText : Contents → PlanFile → List ℕ → List ℕ → Type 0
IsFrontText c plan file text = HasCapture (Some c) plan file (λ p octets.
    (front more : List (List ℕ)) × (lines_of_capture p octets ≡ front ++ more) × (text ≡ text_of_lines front))

-- Under Done and BadCapture the sink took the lines of the whole capture. If the files failed, it took its first lines, or none,
-- and then the line on the fault.
abbrev pub CaptureTells : Contents → PlanFile → List ℕ → Status → List ℕ → Type 0
CaptureTells c plan file Done text = IsWholeText c plan file text
CaptureTells c plan file BadCapture text = IsWholeText c plan file text
CaptureTells c plan file ReadFault text =
    (written : List ℕ) × (text ≡ written ++ read_fault) × ((written ≡ []) ⊎ IsFrontText c plan file written)
CaptureTells c plan file answer text = Unit {0}
