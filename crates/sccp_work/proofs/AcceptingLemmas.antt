-- A plan that has to be accepted before a command goes on.
use Rattle.std.proofs.Common.{◌≡◌, ℕ, List, [], ◌++◌, Option, Result, Err, IfOk, refl, sym, ◌∙◌, ap, subst, append-nil}
use Rattle.std.specs.Io.KnownBytes.{append_known}
use Rattle.plan_check.specs.Verified.{Verified}
use Rattle.plan_model.specs.Network.{Network}
use Rattle.plan_verify.specs.Lawful.{IsLawful}
use Rattle.plan_verify.specs.declared.verdict.Verdict.{Verdict}
use Rattle.plan_verify.specs.declared.verdict.Verdict.TheVariants as verdicts
use Rattle.sccp_io.specs.Files.{Contents}
use Rattle.sccp_report.specs.Verdicts.{verdict_text}
use Rattle.sccp_work.specs.Accepting.{accepted_on, if_accepted}
use Rattle.sccp_work.specs.Ending.{Works, early}
use Rattle.sccp_work.specs.Moment.{Moment}
use Rattle.sccp_work.specs.Questions.{verdict_on, IsJudged}
use Rattle.sccp_work.specs.Verdict.{status_of, IsOnRefusal, Tells}
use Rattle.sccp_work.specs.Work.{Work, answered, Ends, HasFiles}
use Rattle.sccp_work.specs.Writing.{Writes}
use Rattle.sccp_work.specs.declared.status.Status.{Status}
use Rattle.sccp_work.specs.declared.status.Status.TheVariants.{Done, Refused, TooWide}
use Rattle.sccp_work.specs.declared.stop.Stop.{Stop}
use Rattle.sccp_work.proofs.VerdictLemmas.{not_cut}
use Rattle.sccp_work.proofs.WorkLemmas.{Works-answered, Works-ask, Works-early}

-- the verdict is not that the plan is accepted, so it is the answer
refused_work : (word : List ℕ) (plan : Network) (verdict : Verdict) (next : Verified → Work) → IsOnRefusal (status_of verdict)
    → accepted_on word next plan verdict ≡ answered (status_of verdict, word ++ verdict_text plan verdict)
refused_work word plan (verdicts.Accepted accepted) next is = absurd is
refused_work word plan (verdicts.Refused same witness) next is = refl
refused_work word plan (verdicts.TooWide same) next is = refl

pub Works-refused : (word : List ℕ) (plan : Network) (verdict : Verdict) (next : Verified → Work) (result : Result Status Stop)
    (b a : Moment)
    → IsJudged plan verdict → IsOnRefusal (status_of verdict)
    → Writes (word ++ verdict_text plan verdict) result b.taken a.taken b.write_faults a.write_faults
    → IfOk result (λ s. s ≡ status_of verdict) → a.contents ≡ b.contents → a.sound ≡ b.sound → a.read_faults ≡ b.read_faults
    → Works (if_accepted word plan next) (Err (early result)) b a
Works-refused word plan verdict next result b a judged is writes answer contents sound read_faults =
    Works-ask (verdict_on plan) (accepted_on word next plan) verdict (Err (early result)) b a judged
    (subst (λ w. Works w (Err (early result)) b a) (sym (refused_work word plan verdict next is))
    (Works-early (answered (status_of verdict, word ++ verdict_text plan verdict)) result b a
    (Works-answered (status_of verdict, word ++ verdict_text plan verdict) result b a (not_cut verdict) writes answer contents sound
    read_faults)))

-- what a last answer and its text are
pub Ends-answered : (contents : Option Contents) (status : Status) (line : List ℕ) (s : Status) (text : List ℕ)
    → Ends contents (answered (status, line)) s text → (s ≡ status) × (text ≡ line)
Ends-answered contents status line s text h = (h.2.0, h.1 ∙ ap (λ rest. line ++ rest) h.2.1 ∙ append-nil line)

-- how a work ends that prints one text about an accepted plan: a lawful verdict gives the answer, and the text if the plan is not
-- accepted
pub record Judged (plan : Network) (s : Status) (text : List ℕ) : Type 0 where
  pub verdict : Verdict
  pub lawful : IsLawful plan verdict
  pub status : s ≡ status_of verdict
  pub told : IsOnRefusal (status_of verdict) → text ≡ verdict_text plan verdict

pub Ends-judged : (contents : Option Contents) (plan : Network) (line : List ℕ) (s : Status) (text : List ℕ)
    → Ends contents (if_accepted [] plan (λ accepted. answered (Done, line))) s text → Judged plan s text
Ends-judged contents plan line s text h = by h.0 h.1.1 h.2 where
  by : (verdict : Verdict) → IsLawful plan verdict
      → Ends contents (accepted_on [] (λ accepted. answered (Done, line)) plan verdict) s text → Judged plan s text
  by (verdicts.Accepted accepted) lawful e = record {
    verdict = verdicts.Accepted accepted;
    lawful = lawful;
    status = (Ends-answered contents Done line s text e).0;
    told = λ is. absurd is;
  }
  by (verdicts.Refused same witness) lawful e =
      let t = Ends-answered contents Refused (verdict_text plan (verdicts.Refused same witness)) s text e in
      record { verdict = verdicts.Refused same witness; lawful = lawful; status = t.0; told = λ is. t.1 }
  by (verdicts.TooWide same) lawful e =
      let t = Ends-answered contents TooWide (verdict_text plan (verdicts.TooWide same)) s text e in
      record { verdict = verdicts.TooWide same; lawful = lawful; status = t.0; told = λ is. t.1 }

-- such an answer gives a lawful verdict on the plan, whose text the sink took
pub judged_tells : (plan : Network) (s : Status) (text : List ℕ) (taken taken' : Option (List ℕ)) → taken' ≡ append_known taken text
    → IsOnRefusal s → Judged plan s text → Tells plan s taken taken'
judged_tells plan s text taken taken' is given j = record {
  verdict = j.verdict;
  lawful = j.lawful;
  status = j.status;
  text = is ∙ ap (λ t. append_known taken t) (j.told (subst IsOnRefusal j.status given));
}

-- what follows an accepted plan reads the files that there are
pub accepted_files : (c : Contents) (word : List ℕ) (plan : Network) (next : Verified → Work)
    → ((accepted : Verified) → HasFiles c (next accepted)) → HasFiles c (if_accepted word plan next)
accepted_files c word plan next go = λ verdict judged. by verdict where
  by : (verdict : Verdict) → HasFiles c (accepted_on word next plan verdict)
  by (verdicts.Accepted accepted) = go accepted
  by (verdicts.Refused same witness) = tt
  by (verdicts.TooWide same) = tt
