-- The command that verifies a plan.
use Rattle.std.specs.Prelude.{ℕ, List, Option}
use Rattle.sccp_io.specs.Files.{Contents}
use Rattle.sccp_report.specs.Verdicts.{verdict_text}
use Rattle.sccp_work.specs.Limit.{HasLongFile}
use Rattle.sccp_work.specs.PlanFile.{PlanFile}
use Rattle.sccp_work.specs.Plans.{with_plan, HasPlan, HasBadPlan}
use Rattle.sccp_work.specs.Verdict.{status_of, IsSafe, IsBad, IsWide, IsOnVerdict, Tells}
use Rattle.sccp_work.specs.Work.{Work, judge, answered}
use Rattle.sccp_work.specs.declared.status.Status.{Status}
use Rattle.sccp_work.specs.declared.status.Status.TheVariants.{Done, Refused, BadPlan, TooWide, TooLong}

abbrev pub verify_work : PlanFile → Work
verify_work file = with_plan file (λ plan. judge plan (λ verdict. answered (status_of verdict, verdict_text plan verdict)))

-- the cause of each answer
abbrev pub VerifyCause : Option Contents → PlanFile → Status → Type 0
VerifyCause contents file Done = HasPlan contents file IsSafe
VerifyCause contents file Refused = HasPlan contents file IsBad
VerifyCause contents file TooWide = HasPlan contents file IsWide
VerifyCause contents file BadPlan = HasBadPlan contents file
VerifyCause contents file TooLong = HasLongFile contents file
VerifyCause contents file answer = ⊥

-- what gives an answer for sure: a plan that is both safe or bad and wide may be reported as too wide as well
abbrev pub VerifySure : Option Contents → PlanFile → Status → Type 0
VerifySure contents file Done = HasPlan contents file (λ plan. IsSafe plan × (IsWide plan → ⊥))
VerifySure contents file Refused = ⊥
VerifySure contents file TooWide = ⊥
VerifySure contents file answer = VerifyCause contents file answer

-- such an answer gives a lawful verdict on the plan of the file
abbrev pub VerifyTells : Option Contents → PlanFile → Status → Option (List ℕ) → Option (List ℕ) → Type 0
VerifyTells contents file given taken taken' = IsOnVerdict given → HasPlan contents file (λ plan. Tells plan given taken taken')
