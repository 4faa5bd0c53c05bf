-- How a plan is surveyed, and what that ends with.
use Rattle.std.proofs.Common.{◌≡◌, List, ℕ, Option, Some, Result, IfOk, refl, sym, ◌∙◌, ap, subst}
use Rattle.std.specs.Prelude.{is_ok}
use Rattle.std.specs.Io.KnownBytes.{append_known}
use Rattle.plan_model.specs.Network.{Network}
use Rattle.plan_unused.specs.Surveys.{IsLawfulSurvey}
use Rattle.plan_unused.specs.declared.survey.Survey.{Survey}
use Rattle.plan_unused.specs.declared.survey.Survey.TheVariants as surveys
use Rattle.sccp_io.specs.Files.{Contents}
use Rattle.sccp_report.specs.Surveys.{survey_text}
use Rattle.sccp_plans.specs.Unused.{survey_status, survey_work, unused_work, MeetsMany, UnusedCause, UnusedSure, UnusedTells, IsListed}
use Rattle.sccp_plans.proofs.WorkCauses.{WorkCauses}
use Rattle.sccp_work.proofs.AcceptingLemmas.{Ends-answered}
use Rattle.sccp_work.proofs.PlanLemmas.{PlanEnds, long, bad, good, Ends-with_plan, if_long, if_bad, at_plan, plan_files}
use Rattle.sccp_work.proofs.WorkLemmas.{Works-answered, Works-ask}
use Rattle.sccp_work.specs.Ending.{IsCut, Works}
use Rattle.sccp_work.specs.Moment.{Moment}
use Rattle.sccp_work.specs.PlanFile.{PlanFile}
use Rattle.sccp_work.specs.Plans.{HasPlan}
use Rattle.sccp_work.specs.Questions.{survey_of}
use Rattle.sccp_work.specs.Work.{answered, Ends}
use Rattle.sccp_work.specs.Writing.{Writes}
use Rattle.sccp_work.specs.declared.status.Status.{Status}
use Rattle.sccp_work.specs.declared.status.Status.TheVariants.{Done, Usage, BadPlan, TooLong}
use Rattle.sccp_work.specs.declared.stop.Stop.{Stop}
use Rattle.sccp_work.specs.Limit.{IsThere}

-- ---- the survey is printed

not_cut : (survey : Survey) → IsCut (survey_status survey) → ⊥
not_cut (surveys.Unused found) cut = cut
not_cut surveys.TooWide cut = cut

pub Works-survey : (plan : Network) (status : Status) (line text : List ℕ) (result : Result Status Stop) (b a : Moment)
    → IsListed plan status text → line ≡ text → Writes line result b.taken a.taken b.write_faults a.write_faults
    → IfOk result (λ s. s ≡ status) → a.contents ≡ b.contents → a.sound ≡ b.sound → a.read_faults ≡ b.read_faults
    → Works (survey_work plan) result b a
Works-survey plan status line text result b a listed spelt writes is contents sound read_faults =
    Works-ask (survey_of plan) (λ survey. answered (survey_status survey, survey_text plan survey)) listed.survey result b a listed.is
    (Works-answered (survey_status listed.survey, survey_text plan listed.survey) result b a (not_cut listed.survey)
    (subst (λ t. Writes t result b.taken a.taken b.write_faults a.write_faults) (spelt ∙ listed.text) writes)
    (subst (λ t. IfOk result (λ s. s ≡ t)) listed.status is) contents sound read_faults)

-- ---- how the command ends

-- a lawful survey gives the answer and the text
record Surveyed (plan : Network) (s : Status) (text : List ℕ) : Type 0 where
  pub survey : Survey
  pub lawful : IsLawfulSurvey plan survey
  pub status : s ≡ survey_status survey
  pub whole : text ≡ survey_text plan survey

Ends-survey : (contents : Option Contents) (plan : Network) (s : Status) (text : List ℕ) → Ends contents (survey_work plan) s text
    → Surveyed plan s text
Ends-survey contents plan s text h =
    let a = Ends-answered contents (survey_status h.0) (survey_text plan h.0) s text h.2 in
    record { survey = h.0; lawful = h.1.1; status = a.0; whole = a.1 }

abbrev IsSurveyedWith : List ℕ → Network → Status → Type 0
IsSurveyedWith text plan s = Surveyed plan s text

plan_ends : (contents : Option Contents) (file : PlanFile) (s : Status) (text : List ℕ) → Ends contents (unused_work file) s text
    → PlanEnds contents file (IsSurveyedWith text) s
plan_ends contents file s text h = Ends-with_plan (IsSurveyedWith text) contents file survey_work s text
    (λ plan e. Ends-survey contents plan s text e) h

-- ---- the cause of each answer

cause_at : (contents : Option Contents) (file : PlanFile) (plan : Network) (survey : Survey) → IsLawfulSurvey plan survey
    → HasPlan contents file (λ p. p ≡ plan) → UnusedCause contents file (survey_status survey)
cause_at contents file plan (surveys.Unused found) lawful has = (has.0, has.1, has.2, ap is_ok has.3.1)
cause_at contents file plan surveys.TooWide lawful has =
    (has.0, has.1, has.2, (has.3.0, has.3.1, subst MeetsMany (sym has.3.2) lawful))

only : (contents : Option Contents) (file : PlanFile) (s : Status) (text : List ℕ) → PlanEnds contents file (IsSurveyedWith text) s
    → UnusedCause contents file s
only contents file TooLong text (long h) = h
only contents file BadPlan text (bad h) = h
only contents file s text (good h) =
    subst (UnusedCause contents file) (sym h.3.2.status)
    (cause_at contents file h.3.0 h.3.2.survey h.3.2.lawful (h.0, h.1, h.2, (h.3.0, h.3.1, refl)))

done_unless : (plan : Network) (survey : Survey) → IsLawfulSurvey plan survey → (MeetsMany plan → ⊥) → survey_status survey ≡ Done
done_unless plan (surveys.Unused found) lawful few = refl
done_unless plan surveys.TooWide lawful few = absurd (few lawful)

always : (c : Contents) (file : PlanFile) (t s : Status) (text : List ℕ) → UnusedSure (Some c) file t
    → PlanEnds (Some c) file (IsSurveyedWith text) s → s ≡ t
always c file Done s text has ends =
    let j = at_plan c file (IsSurveyedWith text) (λ plan. MeetsMany plan → ⊥) s ends has in
    j.status ∙ done_unless has.3.0 j.survey j.lawful has.3.2
always c file BadPlan s text has ends = if_bad c file (IsSurveyedWith text) s ends has
always c file TooLong s text has ends = if_long c file (IsSurveyedWith text) s ends has
always c file t s text has ends = absurd has

-- ---- what the text says

tells : (contents : Option Contents) (file : PlanFile) (s : Status) (text : List ℕ) (taken taken' : Option (List ℕ))
    → taken' ≡ append_known taken text → PlanEnds contents file (IsSurveyedWith text) s → UnusedTells contents file s taken taken'
tells contents file TooLong text taken taken' is (long h) = λ given. absurd given
tells contents file BadPlan text taken taken' is (bad h) = λ given. absurd given
tells contents file s text taken taken' is (good h) = λ given. (
  h.0,
  h.1,
  h.2,
  (
    h.3.0,
    h.3.1,
    record {
      survey = h.3.2.survey;
      lawful = h.3.2.lawful;
      status = h.3.2.status;
      text = is ∙ ap (λ t. append_known taken t) h.3.2.whole;
    },
  ),
)

pub unused_causes : (file : PlanFile) → WorkCauses (unused_work file)
    (λ c. UnusedCause (Some c) file) (λ c. UnusedSure (Some c) file)
    (λ c. UnusedTells (Some c) file) (λ c. IsThere c file.name)
unused_causes file = record {
  only = λ c s text h. only (Some c) file s text (plan_ends (Some c) file s text h);
  usage = λ contents text h. absurd (only contents file Usage text (plan_ends contents file Usage text h));
  always = λ c t s text cause h. always c file t s text cause (plan_ends (Some c) file s text h);
  refused = λ c s text cause h. absurd cause;
  tells = λ c s text taken taken' is ends. λ given. tells (Some c) file s text taken taken' is
      (plan_ends (Some c) file s text (ends given)) given;
  files = λ c has. plan_files c file survey_work (λ plan survey is. tt) has;
}
