-- What the comparing of two plans ends with.
use Rattle.std.proofs.Common.{◌≡◌, ◌⊎◌, ℕ, List, Option, Some, Result, IfOk, inl, inr}
use Rattle.plan_model.specs.Network.{Network}
use Rattle.plan_model.specs.SameNodes.{SameNodes}
use Rattle.plan_change.specs.Changes.{IsLawfulChange}
use Rattle.plan_change.specs.declared.answer.Change.{Change}
use Rattle.plan_change.specs.declared.answer.Change.TheVariants as changes
use Rattle.plan_change.proofs.SafeMixtures.{safe_not_bad}
use Rattle.sccp_io.specs.Files.{Contents}
use Rattle.sccp_report.specs.Changes.{change_text}
use Rattle.sccp_plans.specs.Change.{change_status, mixed_work, IsAnswered, IsMixable, IsUnmixable, IsWideMixture, change_work}
use Rattle.sccp_plans.specs.Change.{ChangeCause, ChangeSure, ChangeTells, TellsMixture, is_other, is_told}
use Rattle.sccp_plans.specs.Texts.{other_nodes}
use Rattle.sccp_work.specs.Ending.{IsCut, Works}
use Rattle.sccp_work.specs.Moment.{Moment}
use Rattle.sccp_work.specs.PlanFile.{PlanFile}
use Rattle.sccp_work.specs.Questions.{mixture_of, IsCompared}
use Rattle.sccp_work.specs.Work.{Ends}
use Rattle.sccp_work.specs.Writing.{Writes}
use Rattle.sccp_work.specs.declared.status.Status.{Status}
use Rattle.sccp_work.specs.declared.status.Status.TheVariants.{OtherNodes}
use Rattle.sccp_work.specs.declared.stop.Stop.{Stop}
use Rattle.sccp_plans.proofs.WorkCauses.{WorkCauses}
use Rattle.sccp_plans.proofs.TwoPlansLemmas.{Works-given, Ends-given, given_files, BothEnd, differ, goes, fails, unsure}
use Rattle.sccp_plans.proofs.TwoPlansLemmas.{both_only, both_usage, both_always, both_refused, both_tell, both_files}
use Rattle.sccp_work.specs.Limit.{IsThere}

-- ---- two plans are compared

not_cut : (change : Change) → IsCut (change_status change) → ⊥
not_cut (changes.Kept bound spot turns) cut = cut
not_cut (changes.Broken i j spot turns hops kind) cut = cut
not_cut changes.TooWide cut = cut

-- the answer on two plans is printed
pub Works-mixed : (old new : Network) (status : Status) (line text : List ℕ) (result : Result Status Stop) (b a : Moment)
    → IsAnswered old new status text → line ≡ text
    → Writes line result b.taken a.taken b.write_faults a.write_faults → IfOk result (λ s. s ≡ status) → a.contents ≡ b.contents
    → a.sound ≡ b.sound → a.read_faults ≡ b.read_faults → Works (mixed_work old new) result b a
Works-mixed old new status line text result b a answered spelt writes is contents sound read_faults =
    Works-given (mixture_of old new) change_status (change_text old new) old new status line text result b a not_cut (λ change k. k.2)
    answered spelt writes is contents sound read_faults

-- ---- how the command ends

Ends-mixed : (contents : Option Contents) (old new : Network) (s : Status) (text : List ℕ) → Ends contents (mixed_work old new) s text
    → TellsMixture old new s text
Ends-mixed contents old new s text h = by (Ends-given (mixture_of old new) change_status (change_text old new) contents old new s text h)
  where
    by : ((SameNodes old new → ⊥) × (s ≡ OtherNodes) × (text ≡ other_nodes))
        ⊎ ((change : Change) × IsCompared old new change × (s ≡ change_status change) × (text ≡ change_text old new change))
        → TellsMixture old new s text
    by (inl k) = is_other k.0 k.1 k.2
    by (inr k) = is_told k.1.2 k.0 k.1.3 k.2 k.3

abbrev MixtureEnds : Network → Network → Status → Type 0
MixtureEnds = BothEnd IsMixable IsUnmixable IsWideMixture

mixture_answer : (old new : Network) (s : Status) (text : List ℕ) → TellsMixture old new s text → MixtureEnds old new s
mixture_answer old new s text (is_other others is spelt) = differ others is
mixture_answer old new s text (is_told same change lawful is spelt) = by change lawful is
  where
    by : (c : Change) → IsLawfulChange old new c → s ≡ change_status c → MixtureEnds old new s
    by (changes.Kept bound spot turns) k e = goes same (bound, (k.0, k.1)) e
    by (changes.Broken i j spot turns hops kind) k e = fails same (i, j, spot, turns, hops, kind, k.0) e
    by changes.TooWide k e = unsure same k e

not_both : (p q : Network) → IsMixable p q → IsUnmixable p q → ⊥
not_both p q safe h = safe_not_bad p q safe.0 h.0 h.1 h.2 h.3 h.4 h.5 safe.1.0 safe.1.1 h.6

pub change_causes : (old new : PlanFile) → WorkCauses (change_work old new)
    (λ c. ChangeCause (Some c) old new) (λ c. ChangeSure (Some c) old new)
    (λ c. ChangeTells (Some c) old new) (λ c. IsThere c old.name × IsThere c new.name)
change_causes old new = record {
  only = λ c s text h. both_only mixed_work TellsMixture Ends-mixed IsMixable IsUnmixable IsWideMixture mixture_answer
      (Some c) old new s text h;
  usage = λ contents text h. absurd (both_usage mixed_work TellsMixture Ends-mixed IsMixable IsUnmixable IsWideMixture mixture_answer
      contents old new text h);
  always = λ c t s text cause h. both_always mixed_work TellsMixture Ends-mixed IsMixable IsUnmixable IsWideMixture mixture_answer
      not_both c old new t s text cause h;
  refused = λ c s text cause h. both_refused mixed_work TellsMixture Ends-mixed IsMixable IsUnmixable IsWideMixture mixture_answer
      not_both c old new s text cause h;
  tells = λ c s text taken taken' is ends. both_tell mixed_work TellsMixture Ends-mixed IsMixable IsUnmixable IsWideMixture
      mixture_answer c old new s text taken taken' is ends;
  files = λ c has. both_files c old new mixed_work
      (λ p q. given_files (mixture_of p q) change_status (change_text p q) c p q) has.0 has.1;
}
