-- A plan file that a command reads first of all.
use Rattle.std.specs.Prelude.{◌≡◌, ℕ, List, ◌++◌, Option, Result, Ok, Err, IsOk, IsErr, codes}
use Rattle.plan_model.specs.Network.{Network}
use Rattle.plan_model.specs.declared.limits.Limits.{Limits}
use Rattle.plan_model.specs.declared.plan_fault.PlanFault.{PlanFault}
use Rattle.plan_text.specs.PlanText.{plan_within}
use Rattle.sccp_io.specs.Files.{Contents}
use Rattle.sccp_report.specs.PlanFaults.{plan_fault_text}
use Rattle.sccp_work.specs.Ending.{Works}
use Rattle.sccp_work.specs.Limit.{within_limit, HasFile, HasLongFile}
use Rattle.sccp_work.specs.Moment.{Moment}
use Rattle.sccp_work.specs.PlanFile.{PlanFile}
use Rattle.sccp_work.specs.Work.{Work, answered}
use Rattle.sccp_work.specs.declared.status.Status.{Status}
use Rattle.sccp_work.specs.declared.status.Status.TheVariants.{Done, BadPlan, TooLong}
use Rattle.sccp_work.specs.declared.stop.Stop.{Stop}

-- the line on a text that is no plan under limits
unfoldable pub bad_plan : Limits → PlanFault → List ℕ
bad_plan limits fault = codes "bad plan " ++ plan_fault_text limits fault

-- a text that is no plan is the answer
abbrev pub planned : Limits → Result Network PlanFault → (Network → Work) → Work
planned limits (Ok plan) next = next plan
planned limits (Err fault) next = answered (BadPlan, bad_plan limits fault)

-- the plan of a file
abbrev pub with_plan : PlanFile → (Network → Work) → Work
with_plan file next = within_limit file (λ octets. planned file.limits (plan_within file.limits octets) next)

-- the file is within the limit, and its text is a plan of which this holds
abbrev pub HasPlan : Option Contents → PlanFile → (Network → Type 0) → Type 0
HasPlan contents file holds = HasFile contents file (λ octets. (plan : Network) × (plan_within file.limits octets ≡ Ok plan) × holds plan)

-- the file is within the limit, and its text is no plan
abbrev pub HasBadPlan : Option Contents → PlanFile → Type 0
HasBadPlan contents file = HasFile contents file (λ octets. IsErr (plan_within file.limits octets))

-- the cause of each answer of a command that reads a plan and prints a text about it
abbrev pub TextCause : Option Contents → PlanFile → Status → Type 0
TextCause contents file Done = HasFile contents file (λ octets. IsOk (plan_within file.limits octets))
TextCause contents file BadPlan = HasBadPlan contents file
TextCause contents file TooLong = HasLongFile contents file
TextCause contents file answer = ⊥

-- Whatever the work that needs the plan goes on with: from the plan it goes on, and otherwise it has ended or stopped.
abbrev pub GivesPlan : PlanFile → Result Network Stop → Moment → Moment → Type 0
GivesPlan file (Ok plan) first now =
    (next : Network → Work) (result : Result Status Stop) (after : Moment) → Works (next plan) result now after
    → Works (with_plan file next) result first after
GivesPlan file (Err stop) first now = (next : Network → Work) → Works (with_plan file next) (Err stop) first now
