-- A plan that has to be accepted before a command goes on.
use Rattle.std.specs.Prelude.{ℕ, List, ◌++◌, Result, Ok, Err}
use Rattle.plan_check.specs.Verified.{Verified}
use Rattle.plan_model.specs.Network.{Network}
use Rattle.plan_verify.specs.declared.verdict.Verdict.{Verdict}
use Rattle.plan_verify.specs.declared.verdict.Verdict.TheVariants as verdicts
use Rattle.sccp_report.specs.Verdicts.{verdict_text}
use Rattle.sccp_work.specs.Ending.{Works}
use Rattle.sccp_work.specs.Moment.{Moment}
use Rattle.sccp_work.specs.Work.{Work, judge, answered}
use Rattle.sccp_work.specs.declared.status.Status.{Status}
use Rattle.sccp_work.specs.declared.status.Status.TheVariants.{Refused, TooWide}
use Rattle.sccp_work.specs.declared.stop.Stop.{Stop}

-- from an accepted plan the work goes on; any other verdict is printed after this word, and is the answer
abbrev pub accepted_on : List ℕ → (Verified → Work) → Network → Verdict → Work
accepted_on word next plan (verdicts.Accepted accepted) = next accepted
accepted_on word next plan (verdicts.Refused same witness) =
    answered (Refused, word ++ verdict_text plan (verdicts.Refused same witness))
accepted_on word next plan (verdicts.TooWide same) = answered (TooWide, word ++ verdict_text plan (verdicts.TooWide same))

abbrev pub if_accepted : List ℕ → Network → (Verified → Work) → Work
if_accepted word plan next = judge plan (accepted_on word next plan)

-- Whatever the work that needs an accepted plan goes on with: from this plan it goes on, and otherwise it has ended or
-- stopped.
abbrev pub GivesAccepted : List ℕ → Network → Result Verified Stop → Moment → Moment → Type 0
GivesAccepted word plan (Ok accepted) first now =
    (next : Verified → Work) (result : Result Status Stop) (after : Moment) → Works (next accepted) result now after
    → Works (if_accepted word plan next) result first after
GivesAccepted word plan (Err stop) first now = (next : Verified → Work) → Works (if_accepted word plan next) (Err stop) first now
