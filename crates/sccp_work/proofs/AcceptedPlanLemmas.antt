-- A command that goes on with the plan of a file, if it is accepted.
use Rattle.std.proofs.Common.{◌≡◌, ◌⊎◌, ◌≤◌, ℕ, List, ◌++◌, length, Option, Result, Ok, Err, IfOk, refl, sym, ap, subst, inl, inr}
use Rattle.std.specs.Prelude.{is_err}
use Rattle.plan_check.specs.Verified.{Verified}
use Rattle.plan_model.specs.Network.{Network}
use Rattle.plan_model.specs.declared.limits.Limits.{Limits}
use Rattle.plan_model.specs.declared.plan_fault.PlanFault.{PlanFault}
use Rattle.plan_text.specs.PlanText.{plan_within}
use Rattle.plan_verify.specs.Lawful.{IsLawful}
use Rattle.plan_verify.specs.declared.verdict.Verdict.{Verdict}
use Rattle.plan_verify.specs.declared.verdict.Verdict.TheVariants as verdicts
use Rattle.sccp_io.specs.Files.{Contents, Reads}
use Rattle.sccp_report.specs.Verdicts.{accepted_line, verdict_text}
use Rattle.sccp_work.specs.AcceptedPlan.{read_on_plan, with_accepted, IsSurelySafe, TellsPlan, is_refused, is_wide, is_accepted}
use Rattle.sccp_work.specs.Accepting.{accepted_on, GivesAccepted}
use Rattle.sccp_work.specs.Ending.{Works, early}
use Rattle.sccp_work.specs.Limit.{IsThere}
use Rattle.sccp_work.specs.Moment.{Moment}
use Rattle.sccp_work.specs.PlanFile.{PlanFile}
use Rattle.sccp_work.specs.Plans.{bad_plan, HasPlan}
use Rattle.sccp_work.specs.Verdict.{IsSafe, IsBad, IsWide, IsOnVerdict}
use Rattle.sccp_work.specs.Work.{Work, print, answered, Ends, HasFiles}
use Rattle.sccp_work.specs.Writing.{Writes}
use Rattle.sccp_work.specs.declared.status.Status.{Status}
use Rattle.sccp_work.specs.declared.status.Status.TheVariants.{Refused, BadPlan, TooWide, TooLong}
use Rattle.sccp_work.specs.declared.stop.Stop.{Stop}
use Rattle.sccp_work.proofs.AcceptingLemmas.{Ends-answered, accepted_files}
use Rattle.sccp_work.proofs.LimitLemmas.{FileEnds, Ends-within_limit, limit_files}
use Rattle.sccp_work.proofs.LimitLemmas as lengths
use Rattle.sccp_work.proofs.PlanLemmas.{PlanEnds, long, bad, good}
use Rattle.sccp_work.proofs.VerdictLemmas.{safe_or_bad}
use Rattle.sccp_work.proofs.WorkLemmas.{Kept, Printed, Works-answered, Works-early, printed}

-- the work that follows an accepted plan: its line is printed first
abbrev pub told_first : List ℕ → (Network → Work) → Network → Verified → Work
told_first word next plan accepted = print (word ++ accepted_line accepted.bound) (next plan)

-- the whole work goes on as what is left of it, or has stopped with it
abbrev pub Goes-on : Work → Work → Result (Unit {0}) Stop → Moment → Moment → Type 0
Goes-on whole left (Ok done) m o = (result : Result Status Stop) (a : Moment) → Works left result o a → Works whole result m a
Goes-on whole left (Err stop) m o = Works whole (Err stop) m o

-- a plan is accepted, and its line was printed or could not be written whole
pub Works-accepted : (word : List ℕ) (limits : Limits) (next : Network → Work) (octets : List ℕ) (plan : Network) (accepted : Verified)
    (put : Result (Unit {0}) Stop) (m n o : Moment) → plan_within limits octets ≡ Ok plan → GivesAccepted word plan (Ok accepted) m n
    → Writes (word ++ accepted_line accepted.bound) put n.taken o.taken n.write_faults o.write_faults → Kept n o
    → Goes-on (read_on_plan word limits next (plan_within limits octets)) (next plan) put m o
Works-accepted word limits next octets plan accepted put m n o reads gives writes kept =
    by put (printed (word ++ accepted_line accepted.bound)
    (next plan) put n o writes kept)
  where
    on : (result : Result Status Stop) (a : Moment) → Works (told_first word next plan accepted) result n a
        → Works (read_on_plan word limits next (plan_within limits octets)) result m a
    on result a w = subst (λ r. Works (read_on_plan word limits next r) result m a) (sym reads)
        (gives (told_first word next plan) result a w)

    by : (r : Result (Unit {0}) Stop) → Printed (word ++ accepted_line accepted.bound) (next plan) r n o
        → Goes-on (read_on_plan word limits next (plan_within limits octets)) (next plan) r m o
    by (Ok done) go = λ result a w. on result a (go result a w)
    by (Err stop) w = on (Err stop) o w

-- it is not accepted, or memory was wanting
pub Works-unaccepted : (word : List ℕ) (limits : Limits) (next : Network
    → Work) (octets : List ℕ) (plan : Network) (stop : Stop) (m a : Moment)
    → plan_within limits octets ≡ Ok plan → GivesAccepted word plan (Err stop) m a
    → Works (read_on_plan word limits next (plan_within limits octets)) (Err stop) m a
Works-unaccepted word limits next octets plan stop m a reads gives =
    subst (λ r. Works (read_on_plan word limits next r) (Err stop) m a) (sym reads) (gives (told_first word next plan))

-- the text is no plan
pub Works-unread : (word : List ℕ) (limits : Limits) (next : Network → Work) (octets : List ℕ) (fault : PlanFault) (line : List ℕ)
    (result : Result Status Stop) (m a : Moment) → plan_within limits octets ≡ Err fault → line ≡ word ++ bad_plan limits fault
    → Writes line result m.taken a.taken m.write_faults a.write_faults → IfOk result (λ s. s ≡ BadPlan) → a.contents ≡ m.contents
    → a.sound ≡ m.sound → a.read_faults ≡ m.read_faults → Works (read_on_plan word limits next (plan_within limits octets))
    (Err (early result)) m a
Works-unread word limits next octets fault line result m a is spelt writes answer contents sound read_faults =
    let whole = subst (λ t. Writes t result m.taken a.taken m.write_faults a.write_faults) spelt writes in
    subst (λ r. Works (read_on_plan word limits next r) (Err (early result)) m a) (sym is)
    (Works-early (answered (BadPlan, word ++ bad_plan limits fault)) result m a
    (Works-answered (BadPlan, word ++ bad_plan limits fault) result m a (λ cut. cut) whole answer contents sound read_faults))

-- ---- how the command ends

-- a lawful verdict on a plan is the answer, or the command goes on
pub data VerdictEnds (plan : Network) (on : Status → Type 0) : Status → Type 0 where
  refused : IsBad plan → VerdictEnds plan on Refused
  wide : IsWide plan → VerdictEnds plan on TooWide
  accepted : {s : Status} → IsSafe plan → on s → VerdictEnds plan on s

-- the text of one of the plans
module _ (word : List ℕ) (plan : Network) (on : Status → List ℕ → Type 0) (s : Status) (text : List ℕ) where
  from_verdict : (contents : Option Contents) (next : Network → Work) (v : Verdict) → IsLawful plan v
      → ((rest : List ℕ) → Ends contents (next plan) s rest → on s rest)
      → Ends contents (accepted_on word (told_first word next plan) plan v) s text → TellsPlan word plan on s text
  from_verdict contents next (verdicts.Accepted a) lawful goes h = is_accepted a h.0 lawful h.1 (goes h.0 h.2)
  from_verdict contents next (verdicts.Refused same w) lawful goes h =
      let t = Ends-answered contents Refused (word ++ verdict_text plan
      (verdicts.Refused same w)) s text h in is_refused same w lawful t.0 t.1
  from_verdict contents next (verdicts.TooWide same) lawful goes h =
      let t = Ends-answered contents TooWide (word ++ verdict_text plan (verdicts.TooWide same)) s text h in is_wide same lawful t.0 t.1

-- the text on the plan of a file, if it is one
abbrev pub FileTells : Option Contents → PlanFile → List ℕ → (Network → Status → List ℕ → Type 0) → List ℕ → Status → Type 0
FileTells contents file word on text s = PlanEnds contents file (λ plan t. TellsPlan word plan (on plan) t text) s

from_text : (contents : Option Contents) (file : PlanFile) (word : List ℕ) (next : Network → Work) (on : Network → Status → List ℕ
    → Type 0) (octets : List ℕ) (s : Status) (text : List ℕ) (r : Result Network PlanFault)
    → ((plan : Network) (rest : List ℕ) → Ends contents (next plan) s rest → on plan s rest) → plan_within file.limits octets ≡ r
    → Reads contents file.name octets → length octets ≤ file.limits.octets → Ends contents (read_on_plan word file.limits next r) s text
    → FileTells contents file word on text s
from_text contents file word next on octets s text (Ok plan) goes is reads few h =
    good (octets, reads, few, (plan, is, from_verdict word plan (on plan) s text contents next h.0 h.1.1 (goes plan) h.2))
from_text contents file word next on octets s text (Err fault) goes is reads few h = subst (FileTells contents file word on text)
    (sym h.2.0) (bad (octets, reads, few, ap is_err is))

from_file : (contents : Option Contents) (file : PlanFile) (word : List ℕ) (next : Network → Work) (on : Network → Status → List ℕ
    → Type 0) (s : Status) (text : List ℕ) → ((plan : Network) (rest : List ℕ) → Ends contents (next plan) s rest → on plan s rest)
    → FileEnds contents file (λ octets t. Ends contents (read_on_plan word file.limits next (plan_within file.limits octets)) t text) s
    → FileTells contents file word on text s
from_file contents file word next on TooLong text goes (lengths.long h) = long h
from_file contents file word next on s text goes (lengths.within h) = from_text contents file word next on h.0 s text
    (plan_within file.limits h.0) goes refl h.1 h.2 h.3

pub Ends-with_accepted : (contents : Option Contents) (file : PlanFile) (word : List ℕ) (next : Network → Work) (on : Network → Status
    → List ℕ
    → Type 0) (s : Status) (text : List ℕ) → ((plan : Network) (rest : List ℕ) → Ends contents (next plan) s rest → on plan s rest)
    → Ends contents (with_accepted word file next) s text → FileTells contents file word on text s
Ends-with_accepted contents file word next on s text goes h =
    from_file contents file word next on s text goes
    (Ends-within_limit (λ octets t. Ends contents (read_on_plan word file.limits next
    (plan_within file.limits octets)) t text) contents file
    (λ octets. read_on_plan word file.limits next (plan_within file.limits octets)) s text (λ octets e. e) h)

-- the text left out
verdict_of : (word : List ℕ) (plan : Network) (next : Status → List ℕ → Type 0) (on : Status → Type 0) (s : Status) (text : List ℕ)
    → ((rest : List ℕ) → next s rest → on s) → TellsPlan word plan next s text → VerdictEnds plan on s
verdict_of word plan next on s text goes (is_refused same w lawful is spelt) = subst (VerdictEnds plan on) (sym is) (refused (w, lawful))
verdict_of word plan next on s text goes (is_wide same lawful is spelt) = subst (VerdictEnds plan on) (sym is) (wide lawful)
verdict_of word plan next on s text goes (is_accepted a rest lawful spelt more) = accepted (a.bound, lawful.0) (goes rest more)

pub file_of : (contents : Option Contents) (file : PlanFile) (word : List ℕ) (next : Network → Status → List ℕ → Type 0) (on : Network
    → Status
    → Type 0) (text : List ℕ) (s : Status) → ((plan : Network) (rest : List ℕ) → next plan s rest → on plan s)
    → FileTells contents file word next text s → PlanEnds contents file (λ plan t. VerdictEnds plan (on plan) t) s
file_of contents file word next on text TooLong goes (long h) = long h
file_of contents file word next on text BadPlan goes (bad h) = bad h
file_of contents file word next on text s goes (good h) =
    good (h.0, h.1, h.2, (h.3.0, h.3.1, verdict_of word h.3.0 (next h.3.0) (on h.3.0) s text (goes h.3.0) h.3.2))

-- ---- what each answer follows from

-- with a plan that is surely safe the command goes on
pub goes_on : (plan : Network) (on : Status → Type 0) (s : Status) → IsSurelySafe plan → VerdictEnds plan on s → on s
goes_on plan on Refused safe (refused k) = absurd (safe_or_bad plan safe.0 k.0 k.1)
goes_on plan on TooWide safe (wide k) = absurd (safe.1 k)
goes_on plan on s safe (accepted also k) = k

-- and one that is safe, unless it is reported as too wide
pub goes_on_or_wide : (plan : Network) (on : Status → Type 0) (s : Status) → IsSafe plan → VerdictEnds plan on s → on s ⊎ (s ≡ TooWide)
goes_on_or_wide plan on Refused safe (refused k) = absurd (safe_or_bad plan safe k.0 k.1)
goes_on_or_wide plan on TooWide safe (wide k) = inr refl
goes_on_or_wide plan on s safe (accepted also k) = inl k

pub refused_or_wide : (plan : Network) (on : Status → Type 0) (s : Status) → IsBad plan → VerdictEnds plan on s
    → (s ≡ Refused) ⊎ (s ≡ TooWide)
refused_or_wide plan on Refused is (refused k) = inl refl
refused_or_wide plan on TooWide is (wide k) = inr refl
refused_or_wide plan on s is (accepted safe k) = absurd (safe_or_bad plan safe is.0 is.1)

-- ---- the files of the command

pub with_accepted_files : (c : Contents) (word : List ℕ) (file : PlanFile) (next : Network → Work)
    → ((plan : Network) → HasFiles c (next plan))
    → IsThere c file.name → HasFiles c (with_accepted word file next)
with_accepted_files c word file next go there = limit_files c file
    (λ octets. read_on_plan word file.limits next (plan_within file.limits octets))
    (λ octets. by (plan_within file.limits octets)) there
  where
    by : (r : Result Network PlanFault) → HasFiles c (read_on_plan word file.limits next r)
    by (Ok plan) = accepted_files c word plan (told_first word next plan) (λ accepted. go plan)
    by (Err fault) = tt

-- ---- the text

-- an answer on a verdict is none of a file
pub on_file : (contents : Option Contents) (file : PlanFile) (P : Network → Status → Type 0) (s : Status) → IsOnVerdict s
    → PlanEnds contents file P s → HasPlan contents file (λ plan. P plan s)
on_file contents file P TooLong given (long h) = absurd given
on_file contents file P BadPlan given (bad h) = absurd given
on_file contents file P s given (good h) = h

pub tells_plan : (word : List ℕ) (plan : Network) (P Q : Status → List ℕ → Type 0) (s : Status) (text : List ℕ)
    → ((rest : List ℕ) → P s rest → Q s rest) → TellsPlan word plan P s text → TellsPlan word plan Q s text
tells_plan word plan P Q s text f (is_refused same w lawful is spelt) = is_refused same w lawful is spelt
tells_plan word plan P Q s text f (is_wide same lawful is spelt) = is_wide same lawful is spelt
tells_plan word plan P Q s text f (is_accepted a rest lawful spelt more) = is_accepted a rest lawful spelt (f rest more)
