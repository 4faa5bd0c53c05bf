-- What making a trace of a file of DATA messages ends with.
use Rattle.std.proofs.Common.{◌≡◌, ◌≤◌, ◌++◌, ℕ, List, length, Option, Some, Result, Ok, Err, refl, sym, ◌∙◌, ap, subst, inl, inr}
use Rattle.std.specs.Prelude.{IsOk, IsErr, is_ok, is_err}
use Rattle.std.specs.Io.KnownBytes.{append_known}
use Rattle.std.proofs.lemmas.List.{append-nil}
use Rattle.m3ua_trace.proofs.Loop.{is_traced}
use Rattle.m3ua_trace.specs.Traces.{trace_of, IsTraceOf}
use Rattle.plan_model.specs.Network.{Network}
use Rattle.sccp_io.specs.Files.{Contents, Reads}
use Rattle.trace_text.specs.declared.line_fault.LineFault.{LineFault}
use Rattle.sccp_tool.specs.Import.{import_answer, trace_work, import_work, HasBoth, ImportCause}
use Rattle.sccp_work.specs.Limit.{within_limit, HasFile, HasLongFile}
use Rattle.plan_model.specs.Limits.{standard}
use Rattle.sccp_work.specs.PlanFile.{PlanFile, plain}
use Rattle.sccp_work.specs.Plans.{HasPlan}
use Rattle.sccp_tool.specs.Show.{answer_for}
use Rattle.sccp_tool.specs.Task.{Import}
use Rattle.sccp_work.specs.Verdict.{IsOnVerdict}
use Rattle.sccp_work.specs.Work.{answered, Ends}
use Rattle.sccp_work.specs.declared.status.Status.{Status}
use Rattle.sccp_work.specs.declared.status.Status.TheVariants.{Done, Usage, BadPlan, BadTrace, TooLong}
use Rattle.sccp_tool.proofs.Causes.{Causes}
use Rattle.sccp_work.proofs.LimitLemmas as lengths
use Rattle.sccp_work.proofs.LimitLemmas.{FileEnds, Ends-within_limit, at_file, not_long, limit_files}
use Rattle.sccp_work.proofs.PlanLemmas.{PlanEnds, long, bad, good, Ends-with_plan, if_long, if_bad, at_plan, plan_files}

-- this text is the answer for the octets
abbrev IsTold : Option Contents → Network → List ℕ → List ℕ → Status → Type 0
IsTold contents plan text octets s = Ends contents (answered (import_answer plan octets)) s text

abbrev OnFile : Option Contents → List ℕ → List ℕ → Network → Status → Type 0
OnFile contents name text plan s = FileEnds contents (plain name) (IsTold contents plan text) s

ends : (contents : Option Contents) (plan : PlanFile) (name : List ℕ) (s : Status) (text : List ℕ)
    → Ends contents (import_work plan name) s text
    → PlanEnds contents plan (OnFile contents name text) s
ends contents plan name s text h =
    Ends-with_plan (OnFile contents name text) contents plan
    (λ p. within_limit (plain name) (λ octets. answered (import_answer p octets))) s text
    (λ p e. Ends-within_limit (IsTold contents p text) contents (plain name) (λ octets. answered (import_answer p octets)) s text
    (λ octets f. f) e) h

-- ---- an answer has its cause

caused : (contents : Option Contents) (plan : PlanFile) (name octets : List ℕ) (p : Network) (r : Result (List ℕ) LineFault)
    → HasPlan contents plan (λ q. q ≡ p) → trace_of p octets ≡ r
    → Reads contents name octets → length octets ≤ standard.octets → ImportCause contents plan name (answer_for r).0
caused contents plan name octets p (Ok text) h e reads few =
    (h.0, h.1, h.2, (p, h.3.1 ∙ ap Ok h.3.2, (octets, reads, few, ap is_ok e)))
caused contents plan name octets p (Err fault) h e reads few =
    (h.0, h.1, h.2, (p, h.3.1 ∙ ap Ok h.3.2, (octets, reads, few, ap is_err e)))

only_on : (contents : Option Contents) (plan : PlanFile) (name text : List ℕ) (p : Network) (s : Status)
    → HasPlan contents plan (λ q. q ≡ p)
    → OnFile contents name text p s → ImportCause contents plan name s
only_on contents plan name text p TooLong h (lengths.long l) = inr (h.0, h.1, h.2, (p, h.3.1 ∙ ap Ok h.3.2, l))
only_on contents plan name text p s h (lengths.within w) =
    subst (ImportCause contents plan name) (sym w.3.2.0) (caused contents plan name w.0 p (trace_of p w.0) h refl w.1 w.2)

only : (contents : Option Contents) (plan : PlanFile) (name text : List ℕ) (s : Status)
    → PlanEnds contents plan (OnFile contents name text) s
    → ImportCause contents plan name s
only contents plan name text TooLong (long h) = inl h
only contents plan name text BadPlan (bad h) = h
only contents plan name text s (good h) = only_on contents plan name text h.3.0 s (h.0, h.1, h.2, (h.3.0, h.3.1, refl)) h.3.2

-- ---- a cause has its answer

if_ok : (r : Result (List ℕ) LineFault) → IsOk r → (answer_for r).0 ≡ Done
if_ok (Ok text) ok = refl
if_ok (Err fault) ok = cc

if_err : (r : Result (List ℕ) LineFault) → IsErr r → (answer_for r).0 ≡ BadTrace
if_err (Ok text) err = cc
if_err (Err fault) err = refl

-- the answer for the octets that the file is known to have
at_octets : (c : Contents) (name text : List ℕ) (p : Network) (P : List ℕ → Type 0) (s : Status) → OnFile (Some c) name text p s
    → (has : HasFile (Some c) (plain name) P) → s ≡ (import_answer p has.0).0
at_octets c name text p P TooLong (lengths.long l) has = absurd (not_long c (plain name) P has l)
at_octets c name text p P s (lengths.within w) has = (at_file c (plain name) (λ octets. IsTold (Some c) p text octets s) P w has).2.0

if_file_long : (c : Contents) (name text : List ℕ) (p : Network) (s : Status) → OnFile (Some c) name text p s
    → HasLongFile (Some c) (plain name)
    → s ≡ TooLong
if_file_long c name text p TooLong (lengths.long l) has = refl
if_file_long c name text p s (lengths.within w) has = absurd (not_long c (plain name) (λ octets. IsTold (Some c) p text octets s) w has)

always : (c : Contents) (plan : PlanFile) (name text : List ℕ) (t s : Status) → ImportCause (Some c) plan name t
    → PlanEnds (Some c) plan (OnFile (Some c) name text) s → s ≡ t
always c plan name text Done s has e =
    let p = has.3.0 in
    at_octets c name text p (λ octets. IsOk (trace_of p octets)) s
    (at_plan c plan (OnFile (Some c) name text) (λ q. HasFile (Some c) (plain name) (λ octets. IsOk (trace_of q octets))) s e has) has.3.2
    ∙ if_ok (trace_of p has.3.2.0) has.3.2.3
always c plan name text BadTrace s has e =
    let p = has.3.0 in
    at_octets c name text p (λ octets. IsErr (trace_of p octets)) s
    (at_plan c plan (OnFile (Some c) name text) (λ q. HasFile (Some c) (plain name) (λ octets. IsErr (trace_of q octets))) s e has) has.3.2
    ∙ if_err (trace_of p has.3.2.0) has.3.2.3
always c plan name text BadPlan s has e = if_bad c plan (OnFile (Some c) name text) s e has
always c plan name text TooLong s (inl has) e = if_long c plan (OnFile (Some c) name text) s e has
always c plan name text TooLong s (inr has) e =
    if_file_long c name text has.3.0 s (at_plan c plan (OnFile (Some c) name text) (λ q. HasLongFile (Some c) (plain name)) s e has) has.3.2
always c plan name text t s has e = absurd has

-- what is printed

all_told : (r : Result (List ℕ) LineFault) (contents : Option Contents) (text : List ℕ) → Ends contents (answered (answer_for r)) Done text
    → r ≡ Ok text
all_told (Ok trace) contents text h = ap Ok (sym (h.1 ∙ ap (λ l. trace ++ l) h.2.1 ∙ append-nil trace))
all_told (Err fault) contents text h = cc

told_on : (c : Contents) (plan : PlanFile) (name text : List ℕ) (taken taken' : Option (List ℕ)) (p : Network)
    → taken' ≡ append_known taken text
    → HasPlan (Some c) plan (λ q. q ≡ p) → (s : Status) → s ≡ Done
    → OnFile (Some c) name text p s → HasBoth (Some c) plan name (λ p octets. (text : List ℕ) × (taken' ≡ append_known taken text)
    × IsTraceOf p octets text)
told_on c plan name text taken taken' p is h TooLong e (lengths.long l) = cc
told_on c plan name text taken taken' p is h s e (lengths.within w) =
    let done : IsTold (Some c) p text w.0 Done = subst (IsTold (Some c) p text w.0) e w.3 in (
      h.0,
      h.1,
      h.2,
      (
        p,
        h.3.1
            ∙ ap Ok h.3.2,
        (w.0, w.1, w.2, (text, is, is_traced p w.0 text (all_told (trace_of p w.0) (Some c) text done))),
      ),
    )

told : (c : Contents) (plan : PlanFile) (name text : List ℕ) (taken taken' : Option (List ℕ)) (s : Status)
    → taken' ≡ append_known taken text → s ≡ Done
    → PlanEnds (Some c) plan (OnFile (Some c) name text) s
    → HasBoth (Some c) plan name (λ p octets. (text : List ℕ) × (taken' ≡ append_known taken text) × IsTraceOf p octets text)
told c plan name text taken taken' TooLong is e (long h) = cc
told c plan name text taken taken' BadPlan is e (bad h) = cc
told c plan name text taken taken' s is e (good h) = told_on c plan name text taken taken' h.3.0 is
    (h.0, h.1, h.2, (h.3.0, h.3.1, refl)) s e h.3.2

pub import_causes : (plan : PlanFile) (name : List ℕ) → Causes (Some (Import plan name))
import_causes plan name = record {
  only = λ c s text h. only (Some c) plan name text s (ends (Some c) plan name s text h);
  usage = λ contents text h. absurd (only contents plan name text Usage (ends contents plan name Usage text h));
  always = λ c t s text cause h. always c plan name text t s cause (ends (Some c) plan name s text h);
  refused = λ c s text cause h. absurd cause;
  tells = λ c s text taken taken' is own done. told c plan name text taken taken' s is done
      (ends (Some c) plan name s text (own (subst IsOnVerdict (sym done) tt)));
  journeys = λ c s b a is o. tt;
  files = λ c there. plan_files c plan (λ p. trace_work p name)
      (λ p. limit_files c (plain name) (λ octets. answered (import_answer p octets)) (λ octets. tt) there.1) there.0;
}
