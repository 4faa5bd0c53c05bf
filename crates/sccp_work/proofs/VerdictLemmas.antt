-- The verdict on a plan is printed, and what each answer follows from.
use Rattle.std.proofs.Common.{◌≡◌, ◌⊎◌, List, ℕ, Result, IfOk, subst, inl, inr}
use Rattle.plan_model.proofs.SafeWays.{safe_not_bad}
use Rattle.plan_model.specs.Network.{Network}
use Rattle.plan_verify.specs.Lawful.{IsLawful}
use Rattle.plan_verify.specs.Witnesses.{IsWitness}
use Rattle.plan_verify.specs.declared.verdict.Verdict.{Verdict}
use Rattle.plan_verify.specs.declared.verdict.Verdict.TheVariants as verdicts
use Rattle.plan_verify.specs.declared.witness.Witness.{Witness}
use Rattle.sccp_report.specs.Verdicts.{verdict_text}
use Rattle.sccp_work.specs.Ending.{IsCut, Works}
use Rattle.sccp_work.specs.Moment.{Moment}
use Rattle.sccp_work.specs.Verdict.{status_of, IsSafe, IsBad, IsWide, IsOnVerdict, IsOnRefusal}
use Rattle.sccp_work.specs.Questions.{verdict_on, IsJudged}
use Rattle.sccp_work.specs.Work.{Work, judge, answered}
use Rattle.sccp_work.specs.Writing.{Writes}
use Rattle.sccp_work.specs.declared.status.Status.{Status}
use Rattle.sccp_work.specs.declared.status.Status.TheVariants.{Done, Refused, TooWide}
use Rattle.sccp_work.specs.declared.stop.Stop.{Stop}
use Rattle.sccp_work.proofs.WorkLemmas.{Works-answered, Works-ask}

abbrev pub judged_work : Network → Work
judged_work plan = judge plan (λ verdict. answered (status_of verdict, verdict_text plan verdict))

-- ---- the verdict on a plan is printed

pub not_cut : (v : Verdict) → IsCut (status_of v) → ⊥
not_cut (verdicts.Accepted accepted) cut = cut
not_cut (verdicts.Refused plan witness) cut = cut
not_cut (verdicts.TooWide plan) cut = cut

pub Works-verdict : (plan : Network) (verdict : Verdict) (status : Status) (text : List ℕ) (result : Result Status Stop) (b a : Moment)
    → IsJudged plan verdict → status ≡ status_of verdict → text ≡ verdict_text plan verdict
    → Writes text result b.taken a.taken b.write_faults a.write_faults → IfOk result (λ s. s ≡ status) → a.contents ≡ b.contents
    → a.sound ≡ b.sound → a.read_faults ≡ b.read_faults → Works (judged_work plan) result b a
Works-verdict plan verdict status text result b a judged of spelt writes is contents sound read_faults =
    let whole = subst (λ t. Writes t result b.taken a.taken b.write_faults a.write_faults) spelt writes in
    let answer = subst (λ t. IfOk result (λ s. s ≡ t)) of is in
    Works-ask (verdict_on plan) (λ v. answered (status_of v, verdict_text plan v)) verdict result b a judged
    (Works-answered (status_of verdict, verdict_text plan verdict) result b a (not_cut verdict) whole answer contents sound read_faults)

-- ---- what each answer follows from

-- no safe plan has a bad route
pub safe_or_bad : (plan : Network) → IsSafe plan → (w : Witness) → IsWitness plan w → ⊥
safe_or_bad plan safe w is = safe_not_bad plan safe.0 w.cover w.spot w.markings w.hops w.kind safe.1.few safe.1.safe is.bad

pub done_if_safe : (plan : Network) (v : Verdict) (s : Status) → IsLawful plan v → s ≡ status_of v → IsSafe plan → (IsWide plan → ⊥)
    → s ≡ Done
done_if_safe plan (verdicts.Accepted accepted) s lawful e safe narrow = e
done_if_safe plan (verdicts.Refused same witness) s lawful e safe narrow = absurd (safe_or_bad plan safe witness lawful)
done_if_safe plan (verdicts.TooWide same) s lawful e safe narrow = absurd (narrow lawful)

pub refused_if_bad : (plan : Network) (v : Verdict) (s : Status) → IsLawful plan v → s ≡ status_of v → IsBad plan
    → (s ≡ Refused) ⊎ (s ≡ TooWide)
refused_if_bad plan (verdicts.Accepted accepted) s lawful e is = absurd (safe_or_bad plan (accepted.bound, lawful.0) is.0 is.1)
refused_if_bad plan (verdicts.Refused same witness) s lawful e is = inl e
refused_if_bad plan (verdicts.TooWide same) s lawful e is = inr e

-- a refusal is an answer of a verdict
pub on_verdict : (s : Status) → IsOnRefusal s → IsOnVerdict s
on_verdict Refused h = tt
on_verdict TooWide h = tt
on_verdict s h = absurd h
