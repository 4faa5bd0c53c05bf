-- What making a connection ends with, and what it prints.
use Rattle.std.proofs.Common.{◌≡◌, ◌⊎◌, ℕ, List, [], Option, Some, Result, IfOk, sym, subst}
use Rattle.std.specs.Io.KnownBytes.{append_known}
use Rattle.plan_model.specs.Network.{Network}
use Rattle.sccp_io.specs.Files.{Contents}
use Rattle.sccp_tool.specs.Connect.{connect_judged, connect_text, connect_work}
use Rattle.sccp_work.specs.Ending.{Works}
use Rattle.sccp_work.specs.Moment.{Moment}
use Rattle.sccp_work.specs.PlanFile.{PlanFile}
use Rattle.sccp_work.specs.Plans.{HasPlan}
use Rattle.sccp_replay.specs.ReplayEnds.{ReplayTells}
use Rattle.sccp_tool.specs.Task.{Connect}
use Rattle.sccp_work.specs.Verdict.{IsSafe, IsBad, IsWide, IsOnVerdict}
use Rattle.sccp_plans.specs.Verify.{VerifyCause, VerifySure}
use Rattle.sccp_work.specs.Work.{answered, Ends}
use Rattle.sccp_work.specs.Writing.{Writes}
use Rattle.sccp_tool.specs.declared.connect.Calling.{Calling}
use Rattle.sccp_work.specs.declared.status.Status.{Status}
use Rattle.sccp_work.specs.declared.status.Status.TheVariants.{Done, Refused, Usage, BadPlan, TooWide, TooLong}
use Rattle.sccp_work.specs.declared.stop.Stop.{Stop}
use Rattle.sccp_tool.proofs.Causes.{Causes}
use Rattle.sccp_tool.proofs.ConnectTold.{connect_told}
use Rattle.sccp_tool.proofs.TaskWords.{IsCalled}
use Rattle.sccp_work.proofs.AcceptingLemmas.{Judged, Ends-judged, judged_tells, accepted_files}
use Rattle.sccp_work.proofs.PlanLemmas.{PlanEnds, long, bad, good, Ends-with_plan, if_long, if_bad, at_plan, plan_files}
use Rattle.sccp_work.proofs.VerdictLemmas.{on_verdict}
use Rattle.sccp_plans.proofs.VerifyLemmas.{cause_of}
use Rattle.sccp_work.proofs.VerdictLemmas.{done_if_safe, refused_if_bad}
use Rattle.sccp_work.proofs.WorkLemmas.{Works-answered}

-- the outcome over an accepted plan is printed, and that is all
pub Works-connected : (plan same : Network) (calling : Calling) (result : Result Status Stop) (b a : Moment) → same ≡ plan
    → Writes (connect_text same calling) result b.taken a.taken b.write_faults a.write_faults
    → IfOk result (λ s. s ≡ Done) → a.contents ≡ b.contents → a.sound ≡ b.sound → a.read_faults ≡ b.read_faults
    → Works (answered (Done, connect_text plan calling)) result b a
Works-connected plan same calling result b a is writes answer contents sound read_faults =
    Works-answered (Done, connect_text plan calling) result b a (λ cut. cut)
    (subst (λ p. Writes (connect_text p calling) result b.taken a.taken b.write_faults a.write_faults) is writes) answer contents sound
    read_faults

-- a lawful verdict gives the answer, and the text of a plan that is not accepted
abbrev Connected : List ℕ → Network → Status → Type 0
Connected text plan s = Judged plan s text

plan_ends : (contents : Option Contents) (file : PlanFile) (calling : Calling) (s : Status) (text : List ℕ)
    → Ends contents (connect_work file calling) s text → PlanEnds contents file (Connected text) s
plan_ends contents file calling s text h = Ends-with_plan (Connected text) contents file (connect_judged calling) s text
    (λ plan e. Ends-judged contents plan (connect_text plan calling) s text e) h

only : (contents : Option Contents) (file : PlanFile) (s : Status) (text : List ℕ)
    → PlanEnds contents file (Connected text) s → VerifyCause contents file s
only contents file TooLong text (long h) = h
only contents file BadPlan text (bad h) = h
only contents file s text (good h) =
    subst (VerifyCause contents file) (sym h.3.2.status)
    (cause_of contents file h.3.0 h.3.2.verdict (λ P p. (h.0, h.1, h.2, (h.3.0, h.3.1, p))) h.3.2.lawful)

always : (c : Contents) (file : PlanFile) (t s : Status) (text : List ℕ) → VerifySure (Some c) file t
    → PlanEnds (Some c) file (Connected text) s → s ≡ t
always c file Done s text has ends =
    let j = at_plan c file (Connected text) (λ plan. IsSafe plan × (IsWide plan → ⊥)) s ends has in
    done_if_safe has.3.0 j.verdict s j.lawful j.status has.3.2.0 has.3.2.1
always c file BadPlan s text has ends = if_bad c file (Connected text) s ends has
always c file TooLong s text has ends = if_long c file (Connected text) s ends has
always c file t s text has ends = absurd has

refused : (c : Contents) (file : PlanFile) (s : Status) (text : List ℕ) → HasPlan (Some c) file IsBad
    → PlanEnds (Some c) file (Connected text) s → (s ≡ Refused) ⊎ (s ≡ TooWide)
refused c file s text has ends =
    let j = at_plan c file (Connected text) IsBad s ends has in
    refused_if_bad has.3.0 j.verdict s j.lawful j.status has.3.2

tells : (c : Contents) (file : PlanFile) (s : Status) (text : List ℕ) (taken taken' : Option (List ℕ))
    → taken' ≡ append_known taken text → PlanEnds (Some c) file (Connected text) s → ReplayTells c file s taken taken'
tells c file TooLong text taken taken' is (long h) = λ given. absurd given
tells c file BadPlan text taken taken' is (bad h) = λ given. absurd given
tells c file s text taken taken' is (good h) =
    λ given. (h.0, h.1, h.2, (h.3.0, h.3.1, judged_tells h.3.0 s text taken taken' is given h.3.2))

pub connect_causes : (file : PlanFile) (calling : Calling) → IsCalled calling → Causes (Some (Connect file calling))
connect_causes file calling called = record {
  only = λ c s text h. only (Some c) file s text (plan_ends (Some c) file calling s text h);
  usage = λ contents text h. absurd (only contents file Usage text (plan_ends contents file calling Usage text h));
  always = λ c t s text cause h. always c file t s text cause (plan_ends (Some c) file calling s text h);
  refused = λ c s text cause h. refused c file s text cause (plan_ends (Some c) file calling s text h);
  tells = λ c s text taken taken' is ends. (
    λ given. tells c file s text taken taken' is (plan_ends (Some c) file calling s text (ends (on_verdict s given))) given,
    λ done. connect_told (Some c) file calling s text taken taken' called is (ends (subst IsOnVerdict (sym done) tt)) done,
  );
  journeys = λ c s b a is o. tt;
  files = λ c there. plan_files c file (connect_judged calling)
      (λ plan. accepted_files c [] plan (λ accepted. answered (Done, connect_text plan calling)) (λ accepted. tt)) there;
}
