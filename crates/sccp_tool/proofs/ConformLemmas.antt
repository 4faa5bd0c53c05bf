-- What judging the messages of a file ends with, and what it writes.
use Rattle.std.proofs.Common.{◌≡◌, ◌++◌, ℕ, Bool, true, false, not, ◌&&◌, cond, ltb, List, [], length, Option, Some, None, Result, Ok, Err}
use Rattle.std.proofs.Common.{refl, sym, ◌∙◌, ap, subst, inl, inr}
use Rattle.std.specs.Prelude.{IsErr, is_err}
use Rattle.std.proofs.lemmas.List.{append-nil}
use Rattle.capture_file.specs.Told.{told}
use Rattle.capture_file.specs.declared.file_fault.FileFault.{FileFault}
use Rattle.capture_file.specs.declared.file_fault.FileFault.TheVariants as faults
use Rattle.capture_trace.specs.Traced.{ending_of}
use Rattle.capture_trace.specs.declared.ending.Ending.{Ending}
use Rattle.capture_trace.specs.declared.ending.Ending.TheVariants.{Whole, Cut, Damaged}
use Rattle.plan_model.specs.Limits.{standard}
use Rattle.plan_model.specs.Network.{Network}
use Rattle.relay_watch.proofs.Agree.{same_differ}
use Rattle.relay_watch.specs.Differing.{differs}
use Rattle.sccp_conform.proofs.DiffersLemmas.{status_by_lines}
use Rattle.sccp_conform.proofs.TrueLemmas.{are_true}
use Rattle.sccp_conform.specs.Reports.{answer_for, answer_of, file_work, is_long_text, octets_work, work_on, report_text, status_of}
use Rattle.sccp_io.specs.Files.{Contents, Reads}
use Rattle.sccp_report.specs.Limits.{too_long_line}
use Rattle.sccp_tool.specs.Capture.{IsDamaged}
use Rattle.sccp_tool.specs.Conform.{conform_work, HasSeen, IsShort, IsBadCapture, NoneDiffers, OneDiffers, IsJudgedSo, ConformCause}
use Rattle.sccp_tool.specs.Conform.{ConformTells, TellsJudgement}
use Rattle.sccp_tool.specs.Task.{Conform}
use Rattle.sccp_tool.proofs.Causes.{Causes}
use Rattle.sccp_work.proofs.PlanLemmas.{PlanEnds, long, bad, good, Ends-with_plan, if_long, if_bad, at_plan, plan_files}
use Rattle.sccp_work.proofs.WorkLemmas.{same_octets}
use Rattle.sccp_work.specs.Ending.{Answers}
use Rattle.sccp_work.specs.Judgement.{Judgement, IsJudgement}
use Rattle.sccp_work.specs.Moment.{Moment}
use Rattle.sccp_work.specs.PlanFile.{PlanFile}
use Rattle.sccp_work.specs.Plans.{HasPlan}
use Rattle.sccp_work.specs.Work.{answered, Ends, HasFiles}
use Rattle.sccp_work.specs.declared.status.Status.{Status}
use Rattle.sccp_work.specs.declared.status.Status.TheVariants.{Done, Differs, Usage, BadCapture, BadPlan, BadTrace, TooLong}
use Rattle.trace_text.specs.declared.line_fault.LineFault.{LineFault}
use Rattle.watch_items.proofs.FileNumbers.{file_differs}
use Rattle.watch_items.specs.Captures.{Heard, heard}
use Rattle.watch_items.specs.Files.{heard_in, if_read}
use Rattle.watch_items.specs.Front.{is_capture}
use Rattle.watch_items.specs.Items.{events_in, items_of}
use Rattle.watch_items.specs.declared.item.Item.{Item}

-- ---- how the work on a file ends

-- a text is too long, or a line of it has a fault, or there is a judgement, whose text is written
data OctetsEnd (plan : Network) (octets : List ℕ) (s : Status) (text : List ℕ) : Type 0 where
  too_long : is_long_text octets ≡ true → s ≡ TooLong → OctetsEnd plan octets s text
  faulty : IsShort octets → (fault : LineFault) → heard_in octets ≡ Err fault → s ≡ BadTrace → OctetsEnd plan octets s text
  judged : IsShort octets → (h : Heard) → heard_in octets ≡ Ok h → (j : Judgement) → IsJudgement plan (events_in h.items) j
      → s ≡ answer_of h.ending j → text ≡ report_text plan h.items j → OctetsEnd plan octets s text

octets_end : (contents : Option Contents) (plan : Network) (octets : List ℕ) (s : Status) (text : List ℕ)
    → Ends contents (octets_work plan octets) s text → OctetsEnd plan octets s text
octets_end contents plan octets s text h = by (is_long_text octets) refl h where
  read : IsShort octets → (r : Result Heard LineFault) → heard_in octets ≡ r → Ends contents (work_on plan r) s text
      → OctetsEnd plan octets s text
  read short (Err fault) e k = faulty short fault e k.2.0
  read short (Ok x) e k =
      let j : Judgement = k.0 in
      let all : List ℕ = report_text plan x.items j in
      judged short x e j k.1.1 k.2.2.0 (k.2.1 ∙ ap (λ l. all ++ l) k.2.2.1 ∙ append-nil all)

  by : (b : Bool) → is_long_text octets ≡ b
      → Ends contents (cond b (answered (TooLong, too_long_line standard)) (work_on plan (heard_in octets))) s text
      → OctetsEnd plan octets s text
  by true e k = too_long e k.2.0
  by false e k = read e (heard_in octets) refl k

-- this text is that of the file
abbrev OnSeen : Option Contents → List ℕ → List ℕ → Network → Status → Type 0
OnSeen contents file text plan s = (octets : List ℕ) × Reads contents file octets × OctetsEnd plan octets s text

ends : (contents : Option Contents) (plan : PlanFile) (file : List ℕ) (s : Status) (text : List ℕ)
    → Ends contents (conform_work plan file) s text → PlanEnds contents plan (OnSeen contents file text) s
ends contents plan file s text h =
    Ends-with_plan (OnSeen contents file text) contents plan (λ p. file_work p file) s text
    (λ p e. (e.0, e.1, octets_end contents p e.0 s text e.2)) h

-- ---- damaged captures

abbrev ok : Heard → Result Heard LineFault
ok h = Ok h

same : {x y : Heard} → ok x ≡ ok y → x ≡ y
same e = cc

ok_fault : {x : Heard} {fault : LineFault} → ok x ≡ Err fault → ⊥
ok_fault e = cc

clash : {b : Bool} → b ≡ true → b ≡ false → ⊥
clash e f = absurd (no (sym e ∙ f)) where
  no : true ≡ false → ⊥
  no g = cc

not_whole : Whole ≡ Damaged → ⊥
not_whole e = cc

not_cut : Cut ≡ Damaged → ⊥
not_cut e = cc

is_bad : (octets : List ℕ) (h : Heard) → heard_in octets ≡ Ok h → h.ending ≡ Damaged → IsBadCapture octets
is_bad octets h e d = by (is_capture octets) refl e where
  damaged : (fault : Option FileFault) → (told true octets).fault ≡ fault → ending_of fault ≡ Damaged → IsDamaged octets
  damaged None f g = absurd (not_whole g)
  damaged (Some (faults.Cut place)) f g = absurd (not_cut g)
  damaged (Some (faults.Damaged place why)) f g = (place, why, f)

  read : (r : Result (List Item) LineFault) → if_read r ≡ Ok h → ⊥
  read (Ok items) f = not_whole (ap (λ (x : Heard). x.ending) (same f) ∙ d)
  read (Err fault) f = ok_fault (sym f)

  by : (b : Bool) → is_capture octets ≡ b → cond b (Ok (heard octets)) (if_read (items_of octets)) ≡ Ok h → IsBadCapture octets
  by true c f = (c, damaged (told true octets).fault refl (ap (λ (x : Heard). x.ending) (same f) ∙ d))
  by false c f = absurd (read (items_of octets) f)

-- of a file that is no damaged capture the answer is that on its messages
undamaged : (octets : List ℕ) (h : Heard) (status : Status) → heard_in octets ≡ Ok h → (IsBadCapture octets → ⊥)
    → answer_for h.ending status ≡ status
undamaged octets h status e fine = by h.ending refl where
  by : (ending : Ending) → h.ending ≡ ending → answer_for ending status ≡ status
  by Whole f = refl
  by Cut f = refl
  by Damaged f = absurd (fine (is_bad octets h e f))

-- what a capture gives
of_capture : (octets : List ℕ) → is_capture octets ≡ true → heard_in octets ≡ Ok (heard octets)
of_capture octets c = ap (λ b. cond b (Ok (heard octets)) (if_read (items_of octets))) c

ends_damaged : (octets : List ℕ) (h : Heard) → heard_in octets ≡ Ok h → IsBadCapture octets → h.ending ≡ Damaged
ends_damaged octets h e damaged =
    ap (λ (x : Heard). x.ending) (sym (same (sym (of_capture octets damaged.0) ∙ e))) ∙ ap ending_of damaged.1.2

-- a capture is no long text
not_long : (octets : List ℕ) → is_capture octets ≡ true → is_long_text octets ≡ false
not_long octets c = ap (λ b. not b && ltb standard.octets (length octets)) c

-- ---- an answer has its cause

-- the answer on messages
answer_cause : (contents : Option Contents) (plan : PlanFile) (file : List ℕ) (j : Judgement) (b : Bool) → differs j.lines ≡ b
    → HasSeen contents plan file (IsJudgedSo (λ k. differs k.lines ≡ b)) → ConformCause contents plan file (cond b Differs Done)
answer_cause contents plan file j true e has = has
answer_cause contents plan file j false e has = has

caused : (contents : Option Contents) (plan : PlanFile) (file octets : List ℕ) (p : Network) (s : Status) (text : List ℕ)
    → HasPlan contents plan (λ q. q ≡ p) → Reads contents file octets → OctetsEnd p octets s text → ConformCause contents plan file s
caused contents plan file octets p s text has reads (too_long e is) =
    subst (ConformCause contents plan file) (sym is) (inr (has.0, has.1, has.2, (p, has.3.1 ∙ ap Ok has.3.2, (octets, reads, e))))
caused contents plan file octets p s text has reads (faulty short fault e is) =
    subst (ConformCause contents plan file) (sym is)
    (has.0, has.1, has.2, (p, has.3.1 ∙ ap Ok has.3.2, (octets, reads, (short, ap is_err e))))
caused contents plan file octets p s text has reads (judged short h e j is status spelt) =
    subst (ConformCause contents plan file) (sym status) (by h.ending refl) where
      sound : (IsBadCapture octets → ⊥) → ConformCause contents plan file (status_of j)
      sound fine =
          subst (ConformCause contents plan file) (sym (status_by_lines p (events_in h.items) j is))
          (answer_cause contents plan file j (differs j.lines) refl
          (has.0, has.1, has.2, (p, has.3.1 ∙ ap Ok has.3.2, (octets, reads, (short, fine, (h, e, (j, is, refl)))))))

      by : (ending : Ending) → h.ending ≡ ending → ConformCause contents plan file (answer_for ending (status_of j))
      by Whole f = sound (λ damaged. not_whole (sym f ∙ ends_damaged octets h e damaged))
      by Cut f = sound (λ damaged. not_cut (sym f ∙ ends_damaged octets h e damaged))
      by Damaged f = (has.0, has.1, has.2, (p, has.3.1 ∙ ap Ok has.3.2, (octets, reads, is_bad octets h e f)))

only : (contents : Option Contents) (plan : PlanFile) (file text : List ℕ) (s : Status)
    → PlanEnds contents plan (OnSeen contents file text) s → ConformCause contents plan file s
only contents plan file text TooLong (long h) = inl h
only contents plan file text BadPlan (bad h) = h
only contents plan file text s (good h) =
    caused contents plan file h.3.2.0 h.3.0 s text (h.0, h.1, h.2, (h.3.0, h.3.1, refl)) h.3.2.1 h.3.2.2

-- ---- a cause has its answer

-- a file of which a judgement has this answer ends so
sure : (p : Network) (octets : List ℕ) (s t : Status) (text : List ℕ) (b : Bool) → cond b Differs Done ≡ t → OctetsEnd p octets s text
    → IsJudgedSo (λ j. differs j.lines ≡ b) p octets → s ≡ t
sure p octets s t text b to (too_long e is) has = absurd (clash e has.0)
sure p octets s t text b to (faulty short fault e is) has = absurd (ok_fault (sym has.2.1 ∙ e))
sure p octets s t text b to (judged short h e j is status spelt) has =
    let one : h ≡ has.2.0 = same (sym e ∙ has.2.1) in
    let mine : IsJudgement p (events_in has.2.0.items) j = subst (λ (x : Heard). IsJudgement p (events_in x.items) j) one is in
    let k : Judgement = has.2.2.0 in
    let alike : differs j.lines ≡ differs k.lines =
    same_differ p [] (events_in has.2.0.items) j.lines k.lines j.left.waiting k.left.waiting mine.judged has.2.2.1.judged in
    status ∙ undamaged octets h (status_of j) e has.1 ∙ status_by_lines p (events_in h.items) j is
    ∙ ap (λ v. cond v Differs Done) (alike ∙ has.2.2.2) ∙ to

if_bad_capture : (p : Network) (octets : List ℕ) (s : Status) (text : List ℕ) → OctetsEnd p octets s text → IsBadCapture octets
    → s ≡ BadCapture
if_bad_capture p octets s text (too_long e is) has = absurd (clash e (not_long octets has.0))
if_bad_capture p octets s text (faulty short fault e is) has = absurd (ok_fault (sym (of_capture octets has.0) ∙ e))
if_bad_capture p octets s text (judged short h e j is status spelt) has =
    status ∙ ap (λ x. answer_for x (status_of j)) (ends_damaged octets h e has)

if_faulty : (p : Network) (octets : List ℕ) (s : Status) (text : List ℕ) → OctetsEnd p octets s text
    → IsShort octets × IsErr (heard_in octets) → s ≡ BadTrace
if_faulty p octets s text (too_long e is) has = absurd (clash e has.0)
if_faulty p octets s text (faulty short fault e is) has = is
if_faulty p octets s text (judged short h e j is status spelt) has = absurd (none (sym (ap is_err e) ∙ has.1)) where
  none : false ≡ true → ⊥
  none f = cc

if_too_long : (p : Network) (octets : List ℕ) (s : Status) (text : List ℕ) → OctetsEnd p octets s text → is_long_text octets ≡ true
    → s ≡ TooLong
if_too_long p octets s text (too_long e is) has = is
if_too_long p octets s text (faulty short fault e is) has = absurd (clash has short)
if_too_long p octets s text (judged short h e j is status spelt) has = absurd (clash has short)

-- how the file that is known to have these octets ends
at_octets : (c : Contents) (file text octets : List ℕ) (p : Network) (s : Status) → OnSeen (Some c) file text p s
    → Reads (Some c) file octets → OctetsEnd p octets s text
at_octets c file text octets p s on reads =
    subst (λ xs. OctetsEnd p xs s text) (same_octets (c file) on.0 octets on.1 reads) on.2

-- what is known of the file
abbrev Holds : Contents → List ℕ → (Network → List ℕ → Type 0) → Network → Type 0
Holds c file holds p = (octets : List ℕ) × Reads (Some c) file octets × holds p octets

seen : (c : Contents) (plan : PlanFile) (file text : List ℕ) (s : Status) (holds : Network → List ℕ → Type 0)
    → PlanEnds (Some c) plan (OnSeen (Some c) file text) s → (has : HasSeen (Some c) plan file holds)
    → OctetsEnd has.3.0 has.3.2.0 s text
seen c plan file text s holds e has =
    at_octets c file text has.3.2.0 has.3.0 s (at_plan c plan (OnSeen (Some c) file text) (Holds c file holds) s e has) has.3.2.1

always : (c : Contents) (plan : PlanFile) (file text : List ℕ) (t s : Status) → ConformCause (Some c) plan file t
    → PlanEnds (Some c) plan (OnSeen (Some c) file text) s → s ≡ t
always c plan file text Done s has e =
    sure has.3.0 has.3.2.0 s Done text false refl (seen c plan file text s (IsJudgedSo NoneDiffers) e has) has.3.2.2
always c plan file text Differs s has e =
    sure has.3.0 has.3.2.0 s Differs text true refl (seen c plan file text s (IsJudgedSo OneDiffers) e has) has.3.2.2
always c plan file text BadCapture s has e =
    if_bad_capture has.3.0 has.3.2.0 s text (seen c plan file text s (λ p octets. IsBadCapture octets) e has) has.3.2.2
always c plan file text BadTrace s has e =
    if_faulty has.3.0 has.3.2.0 s text (seen c plan file text s (λ p octets. IsShort octets × IsErr (heard_in octets)) e has) has.3.2.2
always c plan file text BadPlan s has e = if_bad c plan (OnSeen (Some c) file text) s e has
always c plan file text TooLong s (inl has) e = if_long c plan (OnSeen (Some c) file text) s e has
always c plan file text TooLong s (inr has) e =
    if_too_long has.3.0 has.3.2.0 s text (seen c plan file text s (λ p octets. is_long_text octets ≡ true) e has) has.3.2.2
always c plan file text t s has e = absurd has

-- ---- what is written

-- an answer of a judgement
abbrev IsOnJudgement : Status → Type 0
IsOnJudgement Done = Unit {0}
IsOnJudgement Differs = Unit {0}
IsOnJudgement BadCapture = Unit {0}
IsOnJudgement s = ⊥

not_faulty : (s : Status) → IsOnJudgement s → s ≡ BadTrace → ⊥
not_faulty Done on e = cc
not_faulty Differs on e = cc
not_faulty BadCapture on e = cc
not_faulty s on e = absurd on

not_too_long : (s : Status) → IsOnJudgement s → s ≡ TooLong → ⊥
not_too_long Done on e = cc
not_too_long Differs on e = cc
not_too_long BadCapture on e = cc
not_too_long s on e = absurd on

told_text : (p : Network) (octets : List ℕ) (s : Status) (text : List ℕ) → IsOnJudgement s → OctetsEnd p octets s text
    → TellsJudgement p octets text
told_text p octets s text on (too_long e is) = absurd (not_too_long s on is)
told_text p octets s text on (faulty short fault e is) = absurd (not_faulty s on is)
told_text p octets s text on (judged short h e j is status spelt) = record {
  short = short;
  heard = h;
  read = e;
  judgement = j;
  is = is;
  text_is = spelt;
  is_true = are_true p (events_in h.items) j (file_differs octets h e) is;
}

told_on : (c : Contents) (plan : PlanFile) (file text : List ℕ) (s : Status) → IsOnJudgement s
    → PlanEnds (Some c) plan (OnSeen (Some c) file text) s → HasSeen (Some c) plan file (λ p octets. TellsJudgement p octets text)
told_on c plan file text TooLong on (long h) = absurd on
told_on c plan file text BadPlan on (bad h) = absurd on
told_on c plan file text s on (good h) =
    (h.0, h.1, h.2, (h.3.0, h.3.1, (h.3.2.0, h.3.2.1, told_text h.3.0 h.3.2.0 s text on h.3.2.2)))

tells : (c : Contents) (plan : PlanFile) (file : List ℕ) (s : Status) (text : List ℕ) (b a : Moment) → b.contents ≡ Some c
    → Answers (conform_work plan file) s text b a → ConformTells c plan file s text
tells c plan file Done text b a is h =
    told_on c plan file text Done tt (ends (Some c) plan file Done text (subst (λ k. Ends k (conform_work plan file) Done text) is h))
tells c plan file Differs text b a is h =
    told_on c plan file text Differs tt (ends (Some c) plan file Differs text
    (subst (λ k. Ends k (conform_work plan file) Differs text) is h))
tells c plan file BadCapture text b a is h =
    told_on c plan file text BadCapture tt
    (ends (Some c) plan file BadCapture text (subst (λ k. Ends k (conform_work plan file) BadCapture text) is h))
tells c plan file s text b a is h = tt

-- ---- all

octets_files : (c : Contents) (p : Network) (octets : List ℕ) → HasFiles c (octets_work p octets)
octets_files c p octets = by (is_long_text octets) where
  read : (r : Result Heard LineFault) → HasFiles c (work_on p r)
  read (Err fault) = tt
  read (Ok h) = λ j true_of. tt

  by : (b : Bool) → HasFiles c (cond b (answered (TooLong, too_long_line standard)) (work_on p (heard_in octets)))
  by true = tt
  by false = read (heard_in octets)

pub conform_causes : (plan : PlanFile) (file : List ℕ) → Causes (Some (Conform plan file))
conform_causes plan file = record {
  only = λ c s text h. only (Some c) plan file text s (ends (Some c) plan file s text h);
  usage = λ contents text h. absurd (only contents plan file text Usage (ends contents plan file Usage text h));
  always = λ c t s text cause h. always c plan file text t s cause (ends (Some c) plan file s text h);
  refused = λ c s text cause h. absurd cause;
  tells = λ c s text taken taken' is own. tt;
  journeys = λ c s b a is o. (o.text, o.goes.taken, tells c plan file s o.text b a is o.answers);
  files = λ c there. plan_files c plan (λ p. file_work p file)
      (λ p. (there.1.0, there.1.1, octets_files c p there.1.0)) there.0;
}
