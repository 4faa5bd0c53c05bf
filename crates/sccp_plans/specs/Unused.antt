-- The command that lists what no covered title of a plan can use.
use Rattle.std.specs.Prelude.{◌≡◌, ℕ, List, Option}
use Rattle.std.specs.Io.KnownBytes.{append_known}
use Rattle.plan_model.specs.Network.{Network}
use Rattle.plan_unused.specs.Meets.{MeetsAtLeast}
use Rattle.plan_unused.specs.Surveys.{IsLawfulSurvey}
use Rattle.plan_unused.specs.declared.survey.Survey.{Survey}
use Rattle.plan_unused.specs.declared.survey.Survey.TheVariants as surveys
use Rattle.sccp_io.specs.Files.{Contents}
use Rattle.sccp_report.specs.Surveys.{survey_text}
use Rattle.sccp_work.specs.PlanFile.{PlanFile}
use Rattle.sccp_work.specs.Plans.{with_plan, HasPlan, TextCause}
use Rattle.sccp_work.specs.Questions.{IsSurveyed, survey_of}
use Rattle.sccp_work.specs.Verdict.{IsOnVerdict}
use Rattle.sccp_work.specs.Work.{Work, ask, answered}
use Rattle.sccp_work.specs.declared.status.Status.{Status}
use Rattle.sccp_work.specs.declared.status.Status.TheVariants.{Done, TooWide}

abbrev pub survey_status : Survey → Status
survey_status (surveys.Unused found) = Done
survey_status surveys.TooWide = TooWide

-- the plan is surveyed, and the text of the survey is the answer
abbrev pub survey_work : Network → Work
survey_work plan = ask (survey_of plan) (λ survey. answered (survey_status survey, survey_text plan survey))

abbrev pub unused_work : PlanFile → Work
unused_work file = with_plan file survey_work

-- covered titles get to the most classes that the plan's limits allow, or more
abbrev pub MeetsMany : Network → Type 0
MeetsMany plan = MeetsAtLeast plan plan.limits.classes

-- the cause of each answer: any plan that reads is surveyed, whether it is safe or not
abbrev pub UnusedCause : Option Contents → PlanFile → Status → Type 0
UnusedCause contents file TooWide = HasPlan contents file MeetsMany
UnusedCause contents file answer = TextCause contents file answer

-- what gives an answer for sure
abbrev pub UnusedSure : Option Contents → PlanFile → Status → Type 0
UnusedSure contents file Done = HasPlan contents file (λ plan. MeetsMany plan → ⊥)
UnusedSure contents file TooWide = ⊥
UnusedSure contents file answer = TextCause contents file answer

-- The sink took the text of a lawful survey of the plan: it lists exactly the relays, rows and targets that no covered title uses,
-- exactly the covers that add nothing to another one, and a title for exactly each cover that has one without a row.
pub record TellsSurvey (plan : Network) (given : Status) (taken taken' : Option (List ℕ)) : Type 0 where
  pub survey : Survey
  pub lawful : IsLawfulSurvey plan survey
  pub status : given ≡ survey_status survey
  pub text : taken' ≡ append_known taken (survey_text plan survey)

abbrev pub UnusedTells : Option Contents → PlanFile → Status → Option (List ℕ) → Option (List ℕ) → Type 0
UnusedTells contents file given taken taken' = IsOnVerdict given → HasPlan contents file (λ plan. TellsSurvey plan given taken taken')

-- ---- what the code gives while the work is done

-- the answer on a plan and its text, as the work has them
pub record IsListed (plan : Network) (given : Status) (line : List ℕ) : Type 0 where
  pub survey : Survey
  pub is : IsSurveyed plan survey
  pub status : given ≡ survey_status survey
  pub text : line ≡ survey_text plan survey
