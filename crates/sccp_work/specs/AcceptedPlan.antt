-- The plan of a file that has to be accepted before a command goes on.
use Rattle.std.specs.Prelude.{◌≡◌, ℕ, List, ◌++◌, Result, Ok, Err}
use Rattle.plan_check.specs.Verified.{Verified}
use Rattle.plan_model.specs.Network.{Network}
use Rattle.plan_model.specs.declared.limits.Limits.{Limits}
use Rattle.plan_model.specs.declared.plan_fault.PlanFault.{PlanFault}
use Rattle.plan_text.specs.PlanText.{plan_within}
use Rattle.plan_verify.specs.Lawful.{IsLawful}
use Rattle.plan_verify.specs.declared.verdict.Verdict.TheVariants as verdicts
use Rattle.plan_verify.specs.declared.witness.Witness.{Witness}
use Rattle.sccp_report.specs.Verdicts.{accepted_line, verdict_text}
use Rattle.sccp_work.specs.Accepting.{if_accepted}
use Rattle.sccp_work.specs.Ending.{Works}
use Rattle.sccp_work.specs.Limit.{within_limit}
use Rattle.sccp_work.specs.Moment.{Moment}
use Rattle.sccp_work.specs.PlanFile.{PlanFile}
use Rattle.sccp_work.specs.Plans.{bad_plan}
use Rattle.sccp_work.specs.Verdict.{IsSafe, IsWide}
use Rattle.sccp_work.specs.Work.{Work, print, answered}
use Rattle.sccp_work.specs.declared.status.Status.{Status}
use Rattle.sccp_work.specs.declared.status.Status.TheVariants.{Refused, BadPlan, TooWide}
use Rattle.sccp_work.specs.declared.stop.Stop.{Stop}

-- of an accepted plan its line is printed, and the work goes on
abbrev pub read_on_plan : List ℕ → Limits → (Network → Work) → Result Network PlanFault → Work
read_on_plan word limits next (Ok plan) = if_accepted word plan (λ accepted. print (word ++ accepted_line accepted.bound) (next plan))
read_on_plan word limits next (Err fault) = answered (BadPlan, word ++ bad_plan limits fault)

-- the plan of a file, if it is accepted; its text is after this word
abbrev pub with_accepted : List ℕ → PlanFile → (Network → Work) → Work
with_accepted word file next = within_limit file (λ octets. read_on_plan word file.limits next (plan_within file.limits octets))

-- a safe plan is accepted for sure if it reaches fewer classes than its limits allow, 262,144 under the standard ones
abbrev pub IsSurelySafe : Network → Type 0
IsSurelySafe plan = IsSafe plan × (IsWide plan → ⊥)

-- Of a plan: a lawful verdict that is not Accepted is the answer, and its text follows the word. Or the plan is accepted for
-- the bound that its line gives, and the text goes on with what follows.
pub data TellsPlan (word : List ℕ) (plan : Network) (next : Status → List ℕ → Type 0) (given : Status) (text : List ℕ) : Type 0 where
  is_refused : (same : Network) (witness : Witness) → IsLawful plan (verdicts.Refused same witness) → given ≡ Refused
      → text ≡ word ++ verdict_text plan (verdicts.Refused same witness) → TellsPlan word plan next given text
  is_wide : (same : Network) → IsLawful plan (verdicts.TooWide same) → given ≡ TooWide
      → text ≡ word ++ verdict_text plan (verdicts.TooWide same) → TellsPlan word plan next given text
  is_accepted : (accepted : Verified) (rest : List ℕ) → IsLawful plan (verdicts.Accepted accepted)
      → text ≡ (word ++ accepted_line accepted.bound) ++ rest → next given rest → TellsPlan word plan next given text

-- ---- what the code gives while the work is done

-- Whatever the work that needs the plan of a file goes on with: from an accepted plan it goes on, and otherwise it has ended
-- or stopped.
abbrev pub GivesAcceptedOf : List ℕ → PlanFile → Result Verified Stop → Moment → Moment → Type 0
GivesAcceptedOf word file (Ok accepted) first now =
    (next : Network → Work) (result : Result Status Stop) (after : Moment) → Works (next accepted.plan) result now after
    → Works (with_accepted word file next) result first after
GivesAcceptedOf word file (Err stop) first now = (next : Network → Work) → Works (with_accepted word file next) (Err stop) first now
