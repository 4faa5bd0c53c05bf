-- What printing the lines of a capture ends with, and what it writes.
use Rattle.std.proofs.Common.{◌≡◌, ◌⊎◌, ◌≤◌, ℕ, List, [], length, Bool, true, false, cond, ltb, Option, Some, None, Result, Ok, Err, refl}
use Rattle.std.proofs.Common.{sym, ◌∙◌}
use Rattle.std.proofs.Common.{ap, subst, inl, inr}
use Rattle.std.proofs.lemmas.Bool.{ltb-false}
use Rattle.capture_file.specs.Told.{told}
use Rattle.capture_file.specs.declared.file_fault.Damage.{Damage}
use Rattle.capture_file.specs.declared.file_fault.FileFault.{FileFault}
use Rattle.capture_file.specs.declared.file_fault.FileFault.TheVariants.{Cut, Damaged}
use Rattle.capture_trace.specs.Traced.{beginning, ending_of, lines_of_capture}
use Rattle.capture_trace.specs.Words.{text_of_lines}
use Rattle.plan_model.specs.Network.{Network}
use Rattle.plan_model.specs.declared.plan_fault.PlanFault.{PlanFault}
use Rattle.plan_text.specs.PlanText.{plan_within}
use Rattle.sccp_capture.specs.Printing.{status_of, status_of_octets, octets_work, file_work}
use Rattle.sccp_capture.proofs.PrintingLemmas.{ends_are, reads_are, has_files}
use Rattle.sccp_io.specs.Files.{Contents, Reads}
use Rattle.sccp_report.specs.Limits.{too_long_line}
use Rattle.sccp_tool.specs.Capture.{capture_work, IsDamaged, CaptureCause, IsWholeText, IsFrontText, CaptureTells}
use Rattle.sccp_tool.specs.Task.{Capture}
use Rattle.sccp_work.specs.Ending.{Answers}
use Rattle.sccp_work.specs.Moment.{Moment}
use Rattle.sccp_work.specs.PlanFile.{PlanFile}
use Rattle.sccp_work.specs.Plans.{planned, HasPlan}
use Rattle.sccp_work.specs.Work.{answered, Ends, ComesToReading}
use Rattle.sccp_work.specs.declared.status.Status.{Status}
use Rattle.sccp_work.specs.declared.status.Status.TheVariants.{Done, Usage, BadPlan, BadCapture, TooLong, ReadFault}
use Rattle.sccp_tool.proofs.Causes.{Causes}
use Rattle.sccp_work.proofs.PlanLemmas.{PlanEnds, long, bad, good, Ends-with_plan, if_long, if_bad, at_plan, plan_files}
use Rattle.sccp_work.proofs.WorkLemmas.{same_octets}

-- this text is that of the capture
abbrev OnCapture : Option Contents → List ℕ → List ℕ → Network → Status → Type 0
OnCapture contents file text plan s = (octets : List ℕ) × Reads contents file octets × Ends contents (octets_work plan octets) s text

ends : (contents : Option Contents) (plan : PlanFile) (file : List ℕ) (s : Status) (text : List ℕ)
    → Ends contents (capture_work plan file) s text → PlanEnds contents plan (OnCapture contents file text) s
ends contents plan file s text h =
    Ends-with_plan (OnCapture contents file text) contents plan (λ p. file_work p file) s text (λ p e. e) h

-- the answer and the text
are : (contents : Option Contents) (p : Network) (octets : List ℕ) (s : Status) (text : List ℕ)
    → Ends contents (octets_work p octets) s text
    → (s ≡ status_of_octets octets) × (text ≡ text_of_lines (lines_of_capture p octets))
are contents p octets s text h = ends_are contents p (told true octets).fault (told true octets).packets beginning s text h

-- ---- an answer has its cause

not_none : (place : ℕ) (why : Damage) → None ≡ Some (Damaged place why) → ⊥
not_none place why e = cc

not_cut : (from place : ℕ) (why : Damage) → Some (Cut from) ≡ Some (Damaged place why) → ⊥
not_cut from place why e = cc

caused : (contents : Option Contents) (plan : PlanFile) (file octets : List ℕ) (p : Network) (fault : Option FileFault)
    → HasPlan contents plan (λ q. q ≡ p) → Reads contents file octets → (told true octets).fault ≡ fault
    → CaptureCause contents plan file (status_of (ending_of fault))
caused contents plan file octets p None h reads e =
    (h.0, h.1, h.2, (p, h.3.1 ∙ ap Ok h.3.2, (octets, reads, λ d. not_none d.0 d.1 (sym e ∙ d.2))))
caused contents plan file octets p (Some (Cut from)) h reads e =
    (h.0, h.1, h.2, (p, h.3.1 ∙ ap Ok h.3.2, (octets, reads, λ d. not_cut from d.0 d.1 (sym e ∙ d.2))))
caused contents plan file octets p (Some (Damaged place why)) h reads e =
    (h.0, h.1, h.2, (p, h.3.1 ∙ ap Ok h.3.2, (octets, reads, (place, why, e))))

only : (contents : Option Contents) (plan : PlanFile) (file text : List ℕ) (s : Status)
    → PlanEnds contents plan (OnCapture contents file text) s → CaptureCause contents plan file s
only contents plan file text TooLong (long h) = h
only contents plan file text BadPlan (bad h) = h
only contents plan file text s (good h) =
    let on : OnCapture contents file text h.3.0 s = h.3.2 in
    subst (CaptureCause contents plan file) (sym (are contents h.3.0 on.0 s text on.2).0)
    (caused contents plan file on.0 h.3.0 (told true on.0).fault (h.0, h.1, h.2, (h.3.0, h.3.1, refl)) on.1 refl)

-- ---- a cause has its answer

if_sound : (fault : Option FileFault) → ((place : ℕ) (why : Damage) → fault ≡ Some (Damaged place why) → ⊥)
    → status_of (ending_of fault) ≡ Done
if_sound None sound = refl
if_sound (Some (Cut from)) sound = refl
if_sound (Some (Damaged place why)) sound = absurd (sound place why refl)

if_damaged : (fault : Option FileFault) (place : ℕ) (why : Damage) → fault ≡ Some (Damaged place why)
    → status_of (ending_of fault) ≡ BadCapture
if_damaged fault place why e = ap (λ (f : Option FileFault). status_of (ending_of f)) e

-- the answer for the octets that the file is known to have
at_octets : (c : Contents) (file text octets : List ℕ) (p : Network) (s : Status) → OnCapture (Some c) file text p s
    → Reads (Some c) file octets → s ≡ status_of_octets octets
at_octets c file text octets p s on reads =
    (are (Some c) p on.0 s text on.2).0 ∙ ap status_of_octets (same_octets (c file) on.0 octets on.1 reads)

always : (c : Contents) (plan : PlanFile) (file text : List ℕ) (t s : Status) → CaptureCause (Some c) plan file t
    → PlanEnds (Some c) plan (OnCapture (Some c) file text) s → s ≡ t
always c plan file text Done s has e =
    let octets : List ℕ = has.3.2.0 in
    at_octets c file text octets has.3.0 s (at_plan c plan (OnCapture (Some c) file text)
    (λ p. (octets : List ℕ) × Reads (Some c) file octets × (IsDamaged octets → ⊥)) s e has) has.3.2.1
    ∙ if_sound (told true octets).fault (λ place why is. has.3.2.2 (place, why, is))
always c plan file text BadCapture s has e =
    let octets : List ℕ = has.3.2.0 in
    at_octets c file text octets has.3.0 s (at_plan c plan (OnCapture (Some c) file text)
    (λ p. (octets : List ℕ) × Reads (Some c) file octets × IsDamaged octets) s e has) has.3.2.1
    ∙ if_damaged (told true octets).fault has.3.2.2.0 has.3.2.2.1 has.3.2.2.2
always c plan file text BadPlan s has e = if_bad c plan (OnCapture (Some c) file text) s e has
always c plan file text TooLong s has e = if_long c plan (OnCapture (Some c) file text) s e has
always c plan file text t s has e = absurd has

-- ---- what is written

-- this is the text of a capture that was read
abbrev IsRead : Status → Type 0
IsRead Done = Unit {0}
IsRead BadCapture = Unit {0}
IsRead s = ⊥

whole : (c : Contents) (plan : PlanFile) (file text : List ℕ) (s : Status) → IsRead s
    → PlanEnds (Some c) plan (OnCapture (Some c) file text) s → IsWholeText c plan file text
whole c plan file text TooLong is (long h) = absurd is
whole c plan file text BadPlan is (bad h) = absurd is
whole c plan file text s is (good h) =
    let on : OnCapture (Some c) file text h.3.0 s = h.3.2 in
    (h.0, h.1, h.2, (h.3.0, h.3.1, (on.0, on.1, (are (Some c) h.3.0 on.0 s text on.2).1)))

-- before the reading that failed
module _ (c : Contents) (plan : PlanFile) (file written octets : List ℕ) (reads : Reads (Some c) plan.name octets) where
  at_plan_text : (r : Result Network PlanFault) → length octets ≤ plan.limits.octets → plan_within plan.limits octets ≡ r
      → ComesToReading (Some c) (planned plan.limits r (λ p. file_work p file)) written
      → (written ≡ []) ⊎ IsFrontText c plan file written
  at_plan_text (Ok p) few is (inl none) = inl none
  at_plan_text (Ok p) few is (inr e) =
      let front = reads_are (Some c) p (told true e.0).fault (told true e.0).packets beginning written e.2 in
      inr (octets, reads, few, (p, is, (e.0, e.1, front)))
  at_plan_text (Err fault) few is e = absurd e.2

  at_plan_file : (v : Bool) → ltb plan.limits.octets (length octets) ≡ v
      → ComesToReading (Some c) (cond v (answered (TooLong, too_long_line plan.limits))
      (planned plan.limits (plan_within plan.limits octets) (λ p. file_work p file))) written
      → (written ≡ []) ⊎ IsFrontText c plan file written
  at_plan_file true is e = absurd e.2
  at_plan_file false is e =
      at_plan_text (plan_within plan.limits octets) (ltb-false plan.limits.octets (length octets) is) refl e

fronts : (c : Contents) (plan : PlanFile) (file written : List ℕ) → ComesToReading (Some c) (capture_work plan file) written
    → (written ≡ []) ⊎ IsFrontText c plan file written
fronts c plan file written (inl none) = inl none
fronts c plan file written (inr e) =
    at_plan_file c plan file written e.0 e.1 (ltb plan.limits.octets (length e.0)) refl e.2

tells : (c : Contents) (plan : PlanFile) (file : List ℕ) (s : Status) (text : List ℕ) (b a : Moment) → b.contents ≡ Some c
    → Answers (capture_work plan file) s text b a → CaptureTells c plan file s text
tells c plan file Done text b a told h =
    whole c plan file text Done tt (ends (Some c) plan file Done text
    (subst (λ k. Ends k (capture_work plan file) Done text) told h))
tells c plan file BadCapture text b a told h =
    whole c plan file text BadCapture tt (ends (Some c) plan file BadCapture text
    (subst (λ k. Ends k (capture_work plan file) BadCapture text) told h))
tells c plan file ReadFault text b a told h =
    (h.1.0, h.1.2, fronts c plan file h.1.0 (subst (λ k. ComesToReading k (capture_work plan file) h.1.0) told h.1.1))
tells c plan file s text b a told h = tt

pub capture_causes : (plan : PlanFile) (file : List ℕ) → Causes (Some (Capture plan file))
capture_causes plan file = record {
  only = λ c s text h. only (Some c) plan file text s (ends (Some c) plan file s text h);
  usage = λ contents text h. absurd (only contents plan file text Usage (ends contents plan file Usage text h));
  always = λ c t s text cause h. always c plan file text t s cause (ends (Some c) plan file s text h);
  refused = λ c s text cause h. absurd cause;
  tells = λ c s text taken taken' is own. tt;
  journeys = λ c s b a told o. (o.text, o.goes.taken, tells c plan file s o.text b a told o.answers);
  files = λ c there. plan_files c plan (λ p. file_work p file) (λ p.
      (there.1.0, there.1.1, has_files c p (told true there.1.0).fault (told true there.1.0).packets beginning)) there.0;
}
