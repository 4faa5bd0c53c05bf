-- What showing a file ends with.
use Rattle.std.proofs.Common.{◌≡◌, ◌≤◌, ℕ, List, length, Option, Some, Result, Ok, Err, refl, sym, ◌∙◌, ap, subst}
use Rattle.std.specs.Prelude.{IsOk, IsErr, is_ok, is_err}
use Rattle.plan_model.specs.Limits.{standard}
use Rattle.sccp_io.specs.Files.{Contents, Reads}
use Rattle.trace_text.specs.Lines.{lines_of}
use Rattle.trace_text.specs.declared.line_fault.LineFault.{LineFault}
use Rattle.sccp_work.specs.Ending.{IsCut}
use Rattle.sccp_tool.specs.Show.{answer_for, show_answer, show_work, shown_lines, ShowCause}
use Rattle.sccp_tool.specs.Task.{Show}
use Rattle.sccp_work.specs.PlanFile.{plain}
use Rattle.sccp_work.specs.Work.{answered, Ends}
use Rattle.sccp_work.specs.declared.status.Status.{Status}
use Rattle.sccp_work.specs.declared.status.Status.TheVariants.{Done, Usage, BadTrace, TooLong}
use Rattle.sccp_tool.proofs.Causes.{Causes}
use Rattle.sccp_work.proofs.LimitLemmas.{FileEnds, long, within, Ends-within_limit, at_file, not_long, limit_files}

-- the answer for a file is its own
own_answer : (shown : Result (List ℕ) LineFault) → IsCut (answer_for shown).0 → ⊥
own_answer (Ok text) cut = cut
own_answer (Err fault) cut = cut

pub show_answer-own : (octets : List ℕ) → IsCut (show_answer octets).0 → ⊥
show_answer-own octets = own_answer (shown_lines 1 (lines_of octets))

-- the answer is the one for the octets
abbrev IsAnswerFor : List ℕ → Status → Type 0
IsAnswerFor octets s = s ≡ (show_answer octets).0

file_ends : (contents : Option Contents) (name : List ℕ) (s : Status) (text : List ℕ) → Ends contents (show_work name) s text
    → FileEnds contents (plain name) IsAnswerFor s
file_ends contents name s text h = Ends-within_limit IsAnswerFor contents (plain name) (λ octets. answered (show_answer octets)) s text
    (λ octets e. e.2.0) h

cause_of : (contents : Option Contents) (name octets : List ℕ) (r : Result (List ℕ) LineFault) → shown_lines 1 (lines_of octets) ≡ r
    → Reads contents name octets → length octets ≤ standard.octets
    → ShowCause contents name (answer_for r).0
cause_of contents name octets (Ok text) e reads few = (octets, reads, few, ap is_ok e)
cause_of contents name octets (Err fault) e reads few = (octets, reads, few, ap is_err e)

only : (contents : Option Contents) (name : List ℕ) (s : Status) → FileEnds contents (plain name) IsAnswerFor s → ShowCause contents name s
only contents name TooLong (long h) = h
only contents name s (within h) = subst (ShowCause contents name) (sym h.3)
    (cause_of contents name h.0 (shown_lines 1 (lines_of h.0)) refl h.1 h.2)

if_ok : (r : Result (List ℕ) LineFault) → IsOk r → (answer_for r).0 ≡ Done
if_ok (Ok text) ok = refl
if_ok (Err fault) ok = cc

if_err : (r : Result (List ℕ) LineFault) → IsErr r → (answer_for r).0 ≡ BadTrace
if_err (Ok text) err = cc
if_err (Err fault) err = refl

abbrev IsShown : List ℕ → Type 0
IsShown octets = IsOk (shown_lines 1 (lines_of octets))

abbrev IsFaulty : List ℕ → Type 0
IsFaulty octets = IsErr (shown_lines 1 (lines_of octets))

always : (c : Contents) (name : List ℕ) (t s : Status) → ShowCause (Some c) name t → FileEnds (Some c) (plain name) IsAnswerFor s → s ≡ t
always c name Done TooLong has (long h) = absurd (not_long c (plain name) IsShown has h)
always c name Done s has (within h) = at_file c (plain name) (λ octets. IsAnswerFor octets s) IsShown h has
    ∙ if_ok (shown_lines 1 (lines_of has.0)) has.3
always c name BadTrace TooLong has (long h) = absurd (not_long c (plain name) IsFaulty has h)
always c name BadTrace s has (within h) = at_file c (plain name) (λ octets. IsAnswerFor octets s) IsFaulty h has
    ∙ if_err (shown_lines 1 (lines_of has.0)) has.3
always c name TooLong TooLong has (long h) = refl
always c name TooLong s has (within h) = absurd (not_long c (plain name) (λ octets. IsAnswerFor octets s) h has)
always c name t s has ends = absurd has

pub show_causes : (name : List ℕ) → Causes (Some (Show name))
show_causes name = record {
  only = λ c s text h. only (Some c) name s (file_ends (Some c) name s text h);
  usage = λ contents text h. absurd (only contents name Usage (file_ends contents name Usage text h));
  always = λ c t s text cause h. always c name t s cause (file_ends (Some c) name s text h);
  refused = λ c s text cause h. absurd cause;
  tells = λ c s text taken taken' is ends. tt;
  journeys = λ c s b a is o. tt;
  files = λ c there. limit_files c (plain name) (λ octets. answered (show_answer octets)) (λ octets. tt) there;
}
