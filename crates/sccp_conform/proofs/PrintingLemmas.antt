-- A report is printed.
use Rattle.std.proofs.Common.{◌≡◌, ℕ, Bool, true, false, cond, eqb, List, Result, Ok, Err, IfOk, ◌∙◌, subst}
use Rattle.capture_trace.specs.declared.ending.Ending.{Ending}
use Rattle.capture_trace.specs.declared.ending.Ending.TheVariants.{Whole, Cut, Damaged}
use Rattle.plan_model.specs.Network.{Network, IsPlan}
use Rattle.relay_watch.specs.Kept.{summary_of}
use Rattle.sccp_conform.specs.Reports.{answer_for, answer_of, heard_work, work_on, report_text, status_for, IsAnswerTo, IsReport}
use Rattle.sccp_conform.specs.declared.report.Report.{Report}
use Rattle.sccp_work.proofs.WorkLemmas.{Works-answered, Works-ask}
use Rattle.sccp_work.specs.Ending.{IsCut, Works}
use Rattle.sccp_work.specs.Judgement.{Judgement}
use Rattle.sccp_work.specs.LineFault.{bad_line}
use Rattle.sccp_work.specs.Moment.{Moment}
use Rattle.sccp_work.specs.Questions.{judgement_of}
use Rattle.sccp_work.specs.Work.{answered}
use Rattle.sccp_work.specs.Writing.{Writes}
use Rattle.sccp_work.specs.declared.status.Status.{Status}
use Rattle.sccp_work.specs.declared.status.Status.TheVariants.{Done, Differs, BadTrace}
use Rattle.sccp_work.specs.declared.stop.Stop.{Stop}
use Rattle.trace_text.specs.declared.line_fault.LineFault.{LineFault}
use Rattle.watch_items.specs.Captures.{Heard}
use Rattle.watch_items.specs.Items.{events_in}

not_cut : (unexplained : ℕ) → IsCut (status_for unexplained) → ⊥
not_cut unexplained = by (eqb unexplained 0) where
  by : (b : Bool) → IsCut (cond b Done Differs) → ⊥
  by true cut = cut
  by false cut = cut

own : (ending : Ending) (unexplained : ℕ) → IsCut (answer_for ending (status_for unexplained)) → ⊥
own Whole unexplained = not_cut unexplained
own Cut unexplained = not_cut unexplained
own Damaged unexplained = λ cut. cut

pub printed : (plan : Network) (h : Heard) (r : Report) (line : List ℕ) (result : Result Status Stop) (b a : Moment) → IsPlan plan
    → IsReport plan h r → line ≡ r.text → Writes line result b.taken a.taken b.write_faults a.write_faults
    → IfOk result (λ s. s ≡ r.status) → a.contents ≡ b.contents → a.sound ≡ b.sound → a.read_faults ≡ b.read_faults
    → Works (heard_work plan h) result b a
printed plan h r line result b a plan_is is spelt writes answer contents sound read_faults =
    let j : Judgement = is.judgement in
    Works-ask (judgement_of plan (events_in h.items)) (λ k. answered (answer_of h.ending k, report_text plan h.items k)) j result b a
    (plan_is, is.is)
    (Works-answered (answer_of h.ending j, report_text plan h.items j) result b a (own h.ending (summary_of j.left).unexplained)
    (subst (λ t. Writes t result b.taken a.taken b.write_faults a.write_faults) (spelt ∙ is.text_is) writes)
    (subst (λ t. IfOk result (λ s. s ≡ t)) is.status_is answer) contents sound read_faults)

pub answer_printed : (plan : Network) (heard : Result Heard LineFault) (r : Report) (line : List ℕ) (result : Result Status Stop)
    (b a : Moment) → IsPlan plan
    → IsAnswerTo plan heard r → line ≡ r.text → Writes line result b.taken a.taken b.write_faults a.write_faults
    → IfOk result (λ s. s ≡ r.status) → a.contents ≡ b.contents → a.sound ≡ b.sound → a.read_faults ≡ b.read_faults
    → Works (work_on plan heard) result b a
answer_printed plan (Err fault) r line result b a plan_is h spelt writes is contents sound read_faults =
    Works-answered (BadTrace, bad_line fault) result b a (λ cut. cut)
    (subst (λ t. Writes t result b.taken a.taken b.write_faults a.write_faults) (spelt ∙ h.1) writes)
    (subst (λ t. IfOk result (λ s. s ≡ t)) h.0 is) contents sound read_faults
answer_printed plan (Ok heard) r line result b a plan_is h spelt writes is contents sound read_faults =
    printed plan heard r line result b a plan_is h spelt writes is contents sound read_faults
