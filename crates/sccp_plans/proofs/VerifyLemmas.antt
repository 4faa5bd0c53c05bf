-- What the verifying of a plan ends with.
use Rattle.std.proofs.Common.{◌≡◌, ◌⊎◌, ℕ, List, ◌++◌, Option, Some, sym, ◌∙◌, ap, subst, append-nil}
use Rattle.std.specs.Io.KnownBytes.{append_known}
use Rattle.plan_model.specs.Network.{Network}
use Rattle.plan_verify.specs.Lawful.{IsLawful}
use Rattle.plan_verify.specs.declared.verdict.Verdict.{Verdict}
use Rattle.plan_verify.specs.declared.verdict.Verdict.TheVariants as verdicts
use Rattle.sccp_io.specs.Files.{Contents}
use Rattle.sccp_report.specs.Verdicts.{verdict_text}
use Rattle.sccp_work.specs.PlanFile.{PlanFile}
use Rattle.sccp_work.specs.Plans.{HasPlan}
use Rattle.sccp_work.specs.Verdict.{status_of, IsSafe, IsBad, IsWide}
use Rattle.sccp_plans.specs.Verify.{verify_work, VerifyCause, VerifySure, VerifyTells}
use Rattle.sccp_work.specs.Work.{Ends}
use Rattle.sccp_work.specs.declared.status.Status.{Status}
use Rattle.sccp_work.specs.declared.status.Status.TheVariants.{Done, Refused, Usage, BadPlan, TooWide, TooLong}
use Rattle.sccp_plans.proofs.WorkCauses.{WorkCauses}
use Rattle.sccp_work.proofs.PlanLemmas.{PlanEnds, long, bad, good, Ends-with_plan, if_long, if_bad, at_plan, plan_files}
use Rattle.sccp_work.proofs.VerdictLemmas.{judged_work, done_if_safe, refused_if_bad}
use Rattle.sccp_work.specs.Limit.{IsThere}

-- ---- how the command ends

-- a lawful verdict gives the answer and the text
record Judged (text : List ℕ) (plan : Network) (s : Status) : Type 0 where
  pub verdict : Verdict
  pub lawful : IsLawful plan verdict
  pub status : s ≡ status_of verdict
  pub whole : text ≡ verdict_text plan verdict

Ends-judged : (contents : Option Contents) (plan : Network) (s : Status) (text : List ℕ) → Ends contents (judged_work plan) s text
    → Judged text plan s
Ends-judged contents plan s text h = record {
  verdict = h.0;
  lawful = h.1.1;
  status = h.2.2.0;
  whole = h.2.1 ∙ ap (λ rest. verdict_text plan h.0 ++ rest) h.2.2.1 ∙ append-nil (verdict_text plan h.0);
}

plan_ends : (contents : Option Contents) (file : PlanFile) (s : Status) (text : List ℕ) → Ends contents (verify_work file) s text
    → PlanEnds contents file (Judged text) s
plan_ends contents file s text h = Ends-with_plan (Judged text) contents file judged_work s text
    (λ plan e. Ends-judged contents plan s text e) h

-- ---- what each answer says of the plan

pub cause_of : (contents : Option Contents) (file : PlanFile) (plan : Network) (v : Verdict)
    → ((P : Network → Type 0) → P plan → HasPlan contents file P) → IsLawful plan v → VerifyCause contents file (status_of v)
cause_of contents file plan (verdicts.Accepted accepted) here lawful = here IsSafe (accepted.bound, lawful.0)
cause_of contents file plan (verdicts.Refused same witness) here lawful = here IsBad (witness, lawful)
cause_of contents file plan (verdicts.TooWide same) here lawful = here IsWide lawful

only : (contents : Option Contents) (file : PlanFile) (s : Status) (text : List ℕ) → PlanEnds contents file (Judged text) s
    → VerifyCause contents file s
only contents file TooLong text (long h) = h
only contents file BadPlan text (bad h) = h
only contents file s text (good h) =
    subst (VerifyCause contents file) (sym h.3.2.status)
    (cause_of contents file h.3.0 h.3.2.verdict (λ P p. (h.0, h.1, h.2, (h.3.0, h.3.1, p))) h.3.2.lawful)

-- ---- what each answer follows from

always : (c : Contents) (file : PlanFile) (t s : Status) (text : List ℕ) → VerifySure (Some c) file t
    → PlanEnds (Some c) file (Judged text) s
    → s ≡ t
always c file Done s text has ends =
    let j = at_plan c file (Judged text) (λ plan. IsSafe plan × (IsWide plan → ⊥)) s ends has in
    done_if_safe has.3.0 j.verdict s j.lawful j.status has.3.2.0 has.3.2.1
always c file BadPlan s text has ends = if_bad c file (Judged text) s ends has
always c file TooLong s text has ends = if_long c file (Judged text) s ends has
always c file t s text has ends = absurd has

refused : (c : Contents) (file : PlanFile) (s : Status) (text : List ℕ) → HasPlan (Some c) file IsBad
    → PlanEnds (Some c) file (Judged text) s
    → (s ≡ Refused) ⊎ (s ≡ TooWide)
refused c file s text has ends =
    let j = at_plan c file (Judged text) IsBad s ends has in
    refused_if_bad has.3.0 j.verdict s j.lawful j.status has.3.2

-- the text gives the verdict

tells : (contents : Option Contents) (file : PlanFile) (s : Status) (text : List ℕ) (taken taken' : Option (List ℕ))
    → taken' ≡ append_known taken text → PlanEnds contents file (Judged text) s → VerifyTells contents file s taken taken'
tells contents file TooLong text taken taken' is (long h) = λ given. absurd given
tells contents file BadPlan text taken taken' is (bad h) = λ given. absurd given
tells contents file s text taken taken' is (good h) = λ given. (
  h.0,
  h.1,
  h.2,
  (
    h.3.0,
    h.3.1,
    record {
      verdict = h.3.2.verdict;
      lawful = h.3.2.lawful;
      status = h.3.2.status;
      text = is
          ∙ ap (λ t. append_known taken t) h.3.2.whole;
    },
  ),
)

pub verify_causes : (file : PlanFile) → WorkCauses (verify_work file)
    (λ c. VerifyCause (Some c) file) (λ c. VerifySure (Some c) file)
    (λ c. VerifyTells (Some c) file) (λ c. IsThere c file.name)
verify_causes file = record {
  only = λ c s text h. only (Some c) file s text (plan_ends (Some c) file s text h);
  usage = λ contents text h. absurd (only contents file Usage text (plan_ends contents file Usage text h));
  always = λ c t s text cause h. always c file t s text cause (plan_ends (Some c) file s text h);
  refused = λ c s text cause h. refused c file s text cause (plan_ends (Some c) file s text h);
  tells = λ c s text taken taken' is ends. λ given. tells (Some c) file s text taken taken' is
      (plan_ends (Some c) file s text (ends given)) given;
  files = λ c there. plan_files c file judged_work (λ plan v judged. tt) there;
}
