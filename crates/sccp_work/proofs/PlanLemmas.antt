-- How a command over a plan ends.
use Rattle.std.proofs.Common.{◌≡◌, ◌≤◌, ℕ, List, length, Option, Some, Result, Ok, Err, IfOk, refl, sym, ap, subst}
use Rattle.std.specs.Prelude.{IsOk, IsErr, is_ok, is_err}
use Rattle.plan_model.specs.Network.{Network}
use Rattle.plan_model.specs.declared.limits.Limits.{Limits}
use Rattle.plan_model.specs.declared.plan_fault.PlanFault.{PlanFault}
use Rattle.plan_text.specs.PlanText.{plan_within}
use Rattle.sccp_io.specs.Files.{Contents, Reads}
use Rattle.sccp_work.specs.Ending.{Works, early}
use Rattle.sccp_work.specs.Limit.{IsThere, HasFile, HasLongFile}
use Rattle.sccp_work.specs.Moment.{Moment}
use Rattle.sccp_work.specs.PlanFile.{PlanFile}
use Rattle.sccp_work.specs.Plans.{bad_plan, planned, with_plan, HasPlan, HasBadPlan, TextCause}
use Rattle.sccp_work.specs.Work.{Work, answered, Ends, HasFiles}
use Rattle.sccp_work.specs.Writing.{Writes}
use Rattle.sccp_work.specs.declared.status.Status.{Status}
use Rattle.sccp_work.specs.declared.status.Status.TheVariants.{Done, BadPlan, TooLong}
use Rattle.sccp_work.specs.declared.stop.Stop.{Stop}
use Rattle.sccp_work.proofs.LimitLemmas.{FileEnds, Ends-within_limit, at_file, not_long, limit_files}
use Rattle.sccp_work.proofs.LimitLemmas as lengths
use Rattle.sccp_work.proofs.WorkLemmas.{Works-answered, Works-early}

-- the text is no plan, and the line that says so is the answer
pub Works-bad_plan : (limits : Limits) (next : Network → Work) (octets : List ℕ) (fault : PlanFault) (line : List ℕ)
    (result : Result Status Stop)
    (m a : Moment) → plan_within limits octets ≡ Err fault → line ≡ bad_plan limits fault
    → Writes line result m.taken a.taken m.write_faults a.write_faults → IfOk result (λ s. s ≡ BadPlan) → a.contents ≡ m.contents
    → a.sound ≡ m.sound → a.read_faults ≡ m.read_faults
    → Works (planned limits (plan_within limits octets) next) (Err (early result)) m a
Works-bad_plan limits next octets fault line result m a is spelt writes answer contents sound read_faults =
    let whole = subst (λ t. Writes t result m.taken a.taken m.write_faults a.write_faults) spelt writes in
    subst (λ r. Works (planned limits r next) (Err (early result)) m a) (sym is)
    (Works-early (answered (BadPlan, bad_plan limits fault)) result m a
    (Works-answered (BadPlan, bad_plan limits fault) result m a (λ cut. cut) whole answer contents sound read_faults))

-- ---- how the command ends

-- the file is too long, its text is no plan, or the command goes on with the plan
pub data PlanEnds (contents : Option Contents) (file : PlanFile) (on : Network → Status → Type 0) : Status → Type 0 where
  long : HasLongFile contents file → PlanEnds contents file on TooLong
  bad : HasBadPlan contents file → PlanEnds contents file on BadPlan
  good : {s : Status} → HasPlan contents file (λ plan. on plan s) → PlanEnds contents file on s

from_text : (on : Network → Status → Type 0) (contents : Option Contents) (file : PlanFile) (next : Network
    → Work) (octets : List ℕ) (s : Status) (text : List ℕ) (r : Result Network PlanFault)
    → ((plan : Network) → Ends contents (next plan) s text → on plan s) → plan_within file.limits octets ≡ r
    → Reads contents file.name octets
    → length octets ≤ file.limits.octets → Ends contents (planned file.limits r next) s text
    → PlanEnds contents file on s
from_text on contents file next octets s text (Ok plan) goes is reads few h = good (octets, reads, few, (plan, is, goes plan h))
from_text on contents file next octets s text (Err fault) goes is reads few h = subst (PlanEnds contents file on) (sym h.2.0)
    (bad (octets, reads, few, ap is_err is))

from_file : (on : Network → Status → Type 0) (contents : Option Contents) (file : PlanFile) (next : Network
    → Work) (s : Status) (text : List ℕ)
    → ((plan : Network) → Ends contents (next plan) s text → on plan s)
    → FileEnds contents file (λ octets t. Ends contents (planned file.limits (plan_within file.limits octets) next) t text) s
    → PlanEnds contents file on s
from_file on contents file next TooLong text goes (lengths.long h) = long h
from_file on contents file next s text goes (lengths.within h) =
    from_text on contents file next h.0 s text (plan_within file.limits h.0) goes refl h.1 h.2 h.3

pub Ends-with_plan : (on : Network → Status → Type 0) (contents : Option Contents) (file : PlanFile) (next : Network
    → Work) (s : Status) (text : List ℕ)
    → ((plan : Network) → Ends contents (next plan) s text → on plan s) → Ends contents (with_plan file next) s text
    → PlanEnds contents file on s
Ends-with_plan on contents file next s text goes h =
    from_file on contents file next s text goes
    (Ends-within_limit (λ octets t. Ends contents (planned file.limits (plan_within file.limits octets) next) t text) contents file
    (λ octets. planned file.limits (plan_within file.limits octets) next) s text (λ octets e. e) h)

pub not_both : {A E : Type 0} (r : Result A E) → IsOk r → IsErr r → ⊥
not_both (Ok x) p q = cc
not_both (Err e) p q = cc

-- ---- each cause gives its answer

pub if_long : (c : Contents) (file : PlanFile) (on : Network → Status → Type 0) (s : Status) → PlanEnds (Some c) file on s
    → HasLongFile (Some c) file → s ≡ TooLong
if_long c file on TooLong (long h) has = refl
if_long c file on BadPlan (bad h) has = absurd (not_long c file (λ octets. IsErr (plan_within file.limits octets)) h has)
if_long c file on s (good h) has = absurd (not_long c file (λ octets. (plan : Network) × (plan_within file.limits octets ≡ Ok plan)
    × on plan s) h has)

pub if_bad : (c : Contents) (file : PlanFile) (on : Network → Status → Type 0) (s : Status) → PlanEnds (Some c) file on s
    → HasBadPlan (Some c) file → s ≡ BadPlan
if_bad c file on TooLong (long h) has = absurd (not_long c file (λ octets. IsErr (plan_within file.limits octets)) has h)
if_bad c file on BadPlan (bad h) has = refl
if_bad c file on s (good h) has =
    let g = at_file c file (λ octets. (plan : Network) × (plan_within file.limits octets ≡ Ok plan)
    × on plan s) (λ octets. IsErr (plan_within file.limits octets)) h has in
    absurd (not_both (plan_within file.limits has.0) (ap is_ok g.1) has.3)

-- with a plan that reads the command goes on
pub if_plan : (c : Contents) (file : PlanFile) (on : Network → Status → Type 0) (s : Status) → PlanEnds (Some c) file on s
    → (has : HasFile (Some c) file (λ octets. IsOk (plan_within file.limits octets)))
    → (plan : Network) × (plan_within file.limits has.0 ≡ Ok plan) × on plan s
if_plan c file on TooLong (long h) has = absurd (not_long c file (λ octets. IsOk (plan_within file.limits octets)) has h)
if_plan c file on BadPlan (bad h) has =
    absurd (not_both (plan_within file.limits has.0) has.3
    (at_file c file (λ octets. IsErr (plan_within file.limits octets)) (λ octets. IsOk (plan_within file.limits octets)) h has))
if_plan c file on s (good h) has = at_file c file (λ octets. (plan : Network) × (plan_within file.limits octets ≡ Ok plan)
    × on plan s) (λ octets. IsOk (plan_within file.limits octets)) h has

pub same_plan : {E : Type 0} (r : Result Network E) (p q : Network) → r ≡ Ok p → r ≡ Ok q → p ≡ q
same_plan r p q e f = cc

pub at_plan : (c : Contents) (file : PlanFile) (on : Network → Status → Type 0) (P : Network → Type 0) (s : Status)
    → PlanEnds (Some c) file on s → (has : HasPlan (Some c) file P) → on has.3.0 s
at_plan c file on P s ends has =
    let g = if_plan c file on s ends (has.0, has.1, has.2, ap is_ok has.3.1) in
    subst (λ plan. on plan s) (same_plan (plan_within file.limits has.0) g.0 has.3.0 g.1 has.3.1) g.2

-- ---- the files of a command over a plan

pub plan_files : (c : Contents) (file : PlanFile) (next : Network → Work) → ((plan : Network) → HasFiles c (next plan))
    → IsThere c file.name
    → HasFiles c (with_plan file next)
plan_files c file next go there = limit_files c file (λ octets. planned file.limits (plan_within file.limits octets) next)
    (λ octets. by (plan_within file.limits octets)) there where
      by : (r : Result Network PlanFault) → HasFiles c (planned file.limits r next)
      by (Ok plan) = go plan
      by (Err fault) = tt

-- ---- a command that prints a text about the plan

abbrev IsDone : Network → Status → Type 0
IsDone plan s = s ≡ Done

text_ends : (contents : Option Contents) (file : PlanFile) (line : Network → List ℕ) (s : Status) (text : List ℕ)
    → Ends contents (with_plan file (λ plan. answered (Done, line plan))) s text → PlanEnds contents file IsDone s
text_ends contents file line s text h = Ends-with_plan IsDone contents file (λ plan. answered (Done, line plan)) s text (λ plan e. e.2.0) h

text_caused : (contents : Option Contents) (file : PlanFile) (s : Status) → PlanEnds contents file IsDone s → TextCause contents file s
text_caused contents file TooLong (long h) = h
text_caused contents file BadPlan (bad h) = h
text_caused contents file s (good h) = subst (TextCause contents file) (sym h.3.2) (h.0, h.1, h.2, ap is_ok h.3.1)

-- its answer has its cause
pub text_only : (contents : Option Contents) (file : PlanFile) (line : Network → List ℕ) (s : Status) (text : List ℕ)
    → Ends contents (with_plan file (λ plan. answered (Done, line plan))) s text → TextCause contents file s
text_only contents file line s text h = text_caused contents file s (text_ends contents file line s text h)

answers : (c : Contents) (file : PlanFile) (t s : Status) → TextCause (Some c) file t → PlanEnds (Some c) file IsDone s → s ≡ t
answers c file Done s has ends = (if_plan c file IsDone s ends has).2
answers c file BadPlan s has ends = if_bad c file IsDone s ends has
answers c file TooLong s has ends = if_long c file IsDone s ends has
answers c file t s has ends = absurd has

-- a cause has its answer
pub text_always : (c : Contents) (file : PlanFile) (line : Network → List ℕ) (t s : Status) (text : List ℕ) → TextCause (Some c) file t
    → Ends (Some c) (with_plan file (λ plan. answered (Done, line plan))) s text → s ≡ t
text_always c file line t s text cause h = answers c file t s cause (text_ends (Some c) file line s text h)
