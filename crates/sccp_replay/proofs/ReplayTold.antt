-- Whatever a replay answers, what the sink took is an account of its trace.
use Rattle.std.proofs.Common.{◌≡◌, ◌≢◌, ◌⊎◌, ◌≤◌, ℕ, List, [], ◌∷◌, ◌++◌, length, take, Bool, true, false, cond, ltb, Option}
use Rattle.std.proofs.Common.{Some, Result, Ok, Err, refl, sym, ◌∙◌, ap, subst, append-nil, append_assoc, arith, inl, inr}
use Rattle.std.specs.Prelude.{codes, is_some, is_err}
use Rattle.std.specs.Fmt.{digits}
use Rattle.std.specs.Io.{StartsWith}
use Rattle.std.specs.Io.KnownBytes.{append_known}
use Rattle.std.specs.List.{AllByRecursion, flat_map}
use Rattle.std.specs.Option.{option_map_or, option_and_then}
use Rattle.std.proofs.lemmas.Bool.{ltb-true, ltb-false}
use Rattle.plan_model.specs.Network.{Network}
use Rattle.plan_model.specs.declared.limits.Limits.{Limits}
use Rattle.plan_model.specs.declared.plan_fault.PlanFault.{PlanFault}
use Rattle.plan_text.specs.PlanText.{plan_within}
use Rattle.plan_text.proofs.Limits.{keeps_limits}
use Rattle.plan_verify.specs.Lawful.{IsLawful}
use Rattle.plan_verify.specs.declared.verdict.Verdict.{Verdict}
use Rattle.plan_verify.specs.declared.verdict.Verdict.TheVariants as verdicts
use Rattle.sccp_io.specs.Files.{Contents}
use Rattle.sccp_report.specs.Limits.{too_long_line, too_wide_line}
use Rattle.sccp_report.specs.Verdicts.{refused_line, verdict_text}
use Rattle.sccp_replay.specs.Trace.{trace_of, lines_in, fault_in}
use Rattle.trace_text.specs.declared.line.Numbered.{Numbered}
use Rattle.sccp_replay.specs.Account.{Account, IsTold, TellsReplay, IsTextUnder}
use Rattle.sccp_work.specs.Ending.{Answers, Outcome, IsCutShort}
use Rattle.sccp_replay.specs.LaterPlans.{first_plan_line}
use Rattle.sccp_work.specs.Moment.{Moment}
use Rattle.sccp_work.specs.PlanFile.{PlanFile, plan_file}
use Rattle.sccp_work.specs.Plans.{bad_plan, planned, HasPlan}
use Rattle.sccp_replay.specs.Replay.{start, closing_of, lines_work, trace_work, replayed, replay_work}
use Rattle.sccp_replay.specs.ReplayEnds.{ReplayCause, ReplayTells}
use Rattle.sccp_work.specs.Verdict.{IsOnRefusal}
use Rattle.sccp_work.specs.Texts.{read_fault}
use Rattle.sccp_work.specs.Verdict.{status_of, IsSafe, Tells}
use Rattle.sccp_work.specs.Questions.{IsJudged}
use Rattle.sccp_work.specs.Work.{Work, finish, print, read, read_on, judge, ask, serve, answered, Ends, ComesToReading}
use Rattle.sccp_work.specs.Work.{BeginsWith}
use Rattle.sccp_work.specs.declared.status.Status.{Status}
use Rattle.sccp_work.specs.declared.status.Status.TheVariants.{Done, Refused, Usage, BadPlan, BadTrace, TooWide, TooLong, OtherNodes}
use Rattle.sccp_work.specs.declared.status.Status.TheVariants.{BadCapture, Differs, NoMemory, ReadFault, WriteFault}
use Rattle.sccp_replay.proofs.Accounting.{lines_through, starts_behind}
use Rattle.sccp_replay.proofs.Accounting as accounts
use Rattle.sccp_replay.proofs.BatchRuns.{open_none}
use Rattle.sccp_replay.proofs.Settling.{Scene, file_of}
use Rattle.sccp_replay.proofs.Telling.{Goes, HasOctets}
use Rattle.sccp_replay.proofs.TraceOctets.{trace_octets}
use Rattle.sccp_work.proofs.Through.{Through, ends_of, reads_of, fronts_of, starts_whole}

-- ---- what holds of less, holds

Through-map : (ends ends' : Status → List ℕ → Type 0) (reads reads' fronts fronts' : List ℕ → Type 0) (k : Option Contents)
    → ((s : Status) (acc : List ℕ) → ends s acc → ends' s acc) → ((acc : List ℕ) → reads acc → reads' acc)
    → ((acc : List ℕ) → fronts acc → fronts' acc)
    → (w : Work) (acc : List ℕ) → Through ends reads fronts k w acc → Through ends' reads' fronts' k w acc
Through-map ends ends' reads reads' fronts fronts' k e r f (finish s) acc h = e s acc h
Through-map ends ends' reads reads' fronts fronts' k e r f (print t w) acc h =
    ((λ front starts. f (acc ++ front) (h.0 front starts)), Through-map ends ends' reads reads' fronts fronts' k e r f w (acc ++ t) h.1)
Through-map ends ends' reads reads' fronts fronts' k e r f (read name g) acc h =
    (r acc h.0, λ octets there. Through-map ends ends' reads reads' fronts fronts' k e r f (g octets) acc (h.1 octets there))
Through-map ends ends' reads reads' fronts fronts' k e r f (ask question g) acc h =
    λ reply is. Through-map ends ends' reads reads' fronts fronts' k e r f (g reply) acc (h reply is)
Through-map ends ends' reads reads' fronts fronts' k e r f (read_on w) acc h =
    (r acc h.0, Through-map ends ends' reads reads' fronts fronts' k e r f w acc h.1)
Through-map ends ends' reads reads' fronts fronts' k e r f (serve b g) acc h =
    λ ns are. Through-map ends ends' reads reads' fronts fronts' k e r f (g ns) acc (h ns are)

-- texts that do not report an accepted first plan

begun : List ℕ
begun = codes "plan 1 "

-- a front of a text with another first octet
abbrev IsOther : List ℕ → Type 0
IsOther t = (front : List ℕ) → StartsWith t front → StartsWith front (codes "plan 1 ") → ⊥

other : (octet : ℕ) (t : List ℕ) → octet ≢ 112 → IsOther (octet ∷ t)
other octet t ne [] starts is = cc
other octet t ne (o ∷ os) starts is = ne (first starts ∙ second is) where
  first : octet ∷ take (length os) t ≡ o ∷ os → octet ≡ o
  first e = cc

  second : o ∷ take 6 os ≡ codes "plan 1 " → o ≡ 112
  second e = cc

too_long_other : (limits : Limits) → IsOther (too_long_line limits)
unfolding too_long_line
too_long_other limits = other 116 _ (λ e. absurd (omega arith))

read_fault_other : IsOther read_fault
unfolding read_fault
read_fault_other = other 114 _ (λ e. absurd (omega arith))

bad_plan_other : (limits : Limits) (fault : PlanFault) → IsOther (bad_plan limits fault)
unfolding bad_plan
bad_plan_other limits fault = other 98 _ (λ e. absurd (omega arith))

refused_other : (plan same : Network) (w : Rattle.plan_verify.specs.declared.witness.Witness.Witness)
    → IsOther (verdict_text plan (verdicts.Refused same w))
unfolding refused_line
refused_other plan same w = other 114 _ (λ e. absurd (omega arith))

wide_other : (plan same : Network) → IsOther (verdict_text plan (verdicts.TooWide same))
unfolding too_wide_line
wide_other plan same = other 116 _ (λ e. absurd (omega arith))

-- ---- all that a replay may write

-- a lawful verdict gives the answer and the whole text
pub record IsVerdict (plan : Network) (s : Status) (text : List ℕ) : Type 0 where
  pub verdict : Verdict
  pub lawful : IsLawful plan verdict
  pub status : s ≡ status_of verdict
  pub whole : text ≡ verdict_text plan verdict

abbrev pub ToldVerdict : Contents → PlanFile → Status → List ℕ → Type 0
ToldVerdict c plan s text = IsOnRefusal s → HasPlan (Some c) plan (λ p. IsVerdict p s text)

abbrev EndsAny : Contents → PlanFile → List ℕ → ℕ → Status → List ℕ → Type 0
EndsAny c plan trace workers s acc = TellsReplay c plan trace workers s acc × ReplayCause c plan trace s × ToldVerdict c plan s acc

-- nothing was written, or some first lines were printed
abbrev ReadsAny : Contents → PlanFile → List ℕ → ℕ → List ℕ → Type 0
ReadsAny c plan trace workers acc = (acc ≡ []) ⊎ ((count : ℕ) × Account c plan workers (take count (lines_in c trace)) [] acc)

abbrev FrontsAny : Contents → PlanFile → List ℕ → ℕ → List ℕ → Type 0
FrontsAny c plan trace workers acc = StartsWith acc (codes "plan 1 ") → IsTold c plan trace workers WriteFault acc

other_answer : (c : Contents) (plan : PlanFile) (trace : List ℕ) (workers : ℕ) (s : Status) (t : List ℕ) → IsOther t → (s ≡ Done → ⊥)
    → (s ≡ BadTrace → ⊥) → ReplayCause c plan trace s → ToldVerdict c plan s t
    → Through (EndsAny c plan trace workers) (ReadsAny c plan trace workers) (FrontsAny c plan trace workers) (Some c) (answered (s, t)) []
other_answer c plan trace workers s t never done bad for verdict = (
  (λ front starts is. absurd (never front starts is)),
  (
    record
        { told = λ is. absurd (never t (starts_whole t) is); begins = λ e. absurd (neither e) },
    for,
    verdict,
  ),
) where
  neither : (s ≡ Done) ⊎ (s ≡ BadTrace) → ⊥
  neither (inl e) = done e
  neither (inr e) = bad e

first_starts : (name : List ℕ) (bound : ℕ) (rest : List ℕ) → StartsWith (first_plan_line name bound ++ rest) (codes "plan 1 ")
unfolding digits first_plan_line
first_starts name bound rest = refl

begins_so : (z : Scene) (s : Status) (acc : List ℕ) → IsTold z.c (file_of z) z.trace_name z.workers s acc → (s ≡ Done) ⊎ (s ≡ BadTrace)
    → StartsWith acc (codes "plan 1 ")
begins_so z s acc told e = by s e told.so where
  whole : acc ≡ told.whole → StartsWith acc (codes "plan 1 ")
  whole is = subst (λ t. StartsWith t (codes "plan 1 ")) (sym (is ∙ told.account.whole))
      (first_starts z.first.name told.account.first.bound (flat_map (λ p. p.text) told.account.pieces ++ told.last))

  by : (s : Status) → (s ≡ Done) ⊎ (s ≡ BadTrace)
      → IsTextUnder z.c z.first.plan.limits z.trace_name (take told.count (lines_in z.c z.trace_name)) told.last told.whole acc s
      → StartsWith acc (codes "plan 1 ")
  by Done e so = whole so.0
  by BadTrace e so = whole so.0
  by Refused (inl e) so = cc
  by Refused (inr e) so = cc
  by Usage (inl e) so = cc
  by Usage (inr e) so = cc
  by BadPlan (inl e) so = cc
  by BadPlan (inr e) so = cc
  by TooWide (inl e) so = cc
  by TooWide (inr e) so = cc
  by TooLong (inl e) so = cc
  by TooLong (inr e) so = cc
  by OtherNodes (inl e) so = cc
  by BadCapture (inl e) so = cc
  by Differs (inl e) so = cc
  by OtherNodes (inr e) so = cc
  by BadCapture (inr e) so = cc
  by Differs (inr e) so = cc
  by NoMemory (inl e) so = cc
  by NoMemory (inr e) so = cc
  by ReadFault (inl e) so = cc
  by ReadFault (inr e) so = cc
  by WriteFault (inl e) so = cc
  by WriteFault (inr e) so = cc

accepted_plan : (z : Scene) → HasPlan (Some z.c) (file_of z) IsSafe
accepted_plan z = (
  z.accepted.octets,
  z.accepted.file,
  z.accepted.within,
  (z.first.plan, z.accepted.reads, (z.first.bound, z.accepted.safe)),
)

why : (z : Scene) (octets : List ℕ) → z.c z.trace_name ≡ Some octets → (s : Status) → accounts.TraceEnds z s
    → ReplayCause z.c (file_of z) z.trace_name s
why z octets there Done h = (accepted_plan z, ap is_some there, h.0, h.1)
why z octets there BadTrace h = (accepted_plan z, h.0, h.1)
why z octets there TooLong h = inr (accepted_plan z, h)
why z octets there Refused h = absurd h
why z octets there Usage h = absurd h
why z octets there OtherNodes h = absurd h
why z octets there BadCapture h = absurd h
why z octets there Differs h = absurd h
why z octets there BadPlan h = absurd h
why z octets there TooWide h = absurd h
why z octets there NoMemory h = absurd h
why z octets there ReadFault h = absurd h
why z octets there WriteFault h = absurd h

none_refused : (z : Scene) (s : Status) → accounts.TraceEnds z s → IsOnRefusal s → ⊥
none_refused z Refused h on = h
none_refused z TooWide h on = h
none_refused z Done h on = on
none_refused z BadTrace h on = on
none_refused z TooLong h on = on
none_refused z Usage h on = on
none_refused z OtherNodes h on = on
none_refused z BadCapture h on = on
none_refused z Differs h on = on
none_refused z BadPlan h on = on
none_refused z NoMemory h on = on
none_refused z ReadFault h on = on
none_refused z WriteFault h on = on

-- from the reading of the trace on
traced : (goes : Goes) (z : Scene) → ((octets : List ℕ) → z.c z.trace_name ≡ Some octets
    → AllByRecursion (HasOctets z.first.plan) (trace_of octets).lines)
    → Through (EndsAny z.c (file_of z) z.trace_name z.workers) (ReadsAny z.c (file_of z) z.trace_name z.workers)
    (FrontsAny z.c (file_of z) z.trace_name z.workers) (Some z.c)
    (print (first_plan_line z.first.name z.first.bound) (read z.trace_name
    (λ octets. trace_work (start z.workers z.first.plan) (trace_of octets)))) []
traced goes z oct = (
  (λ front starts is. accounts.front_first z front starts),
  (inr (0, accounts.account_first z), λ octets there. behind octets there),
) where
  line : List ℕ
  line = first_plan_line z.first.name z.first.bound

  behind : (octets : List ℕ) → z.c z.trace_name ≡ Some octets
      → Through (EndsAny z.c (file_of z) z.trace_name z.workers) (ReadsAny z.c (file_of z) z.trace_name z.workers)
      (FrontsAny z.c (file_of z) z.trace_name z.workers) (Some z.c) (trace_work (start z.workers z.first.plan) (trace_of octets))
      ([] ++ first_plan_line z.first.name z.first.bound)
  behind octets there =
      let lines : lines_in z.c z.trace_name ≡ (trace_of octets).lines =
      ap (λ o. option_map_or (λ octets. (trace_of octets).lines) o []) there in
      let fault : fault_in z.c z.trace_name ≡ (trace_of octets).fault =
      ap (λ o. option_and_then (λ octets. (trace_of octets).fault) o) there in
      let all = lines_through goes z (trace_of octets).fault fault (trace_of octets).lines [] [] [] (start z.workers z.first.plan)
      (first_plan_line z.first.name z.first.bound)
      (accounts.SoFar-start z) (accounts.first_written z) lines (oct octets there) tt (open_none z.first.plan [] refl) in
      Through-map (accounts.Ends z) (EndsAny z.c (file_of z) z.trace_name z.workers) (accounts.Reads z)
      (ReadsAny z.c (file_of z) z.trace_name z.workers)
      (λ acc. IsTold z.c (file_of z) z.trace_name z.workers WriteFault acc) (FrontsAny z.c (file_of z) z.trace_name z.workers) (Some z.c)
      (λ s acc told. (
        record { told = λ is. told.0; begins = begins_so z s acc told.0 },
        why z octets there s told.1,
        (λ on. absurd
            (none_refused z s told.1 on)),
      ))
      (λ acc r. inr (r.count, r.account))
      (λ acc told is. told)
      (trace_work (start z.workers z.first.plan) (trace_of octets)) (first_plan_line z.first.name z.first.bound)
      (subst (λ n. Through (accounts.Ends z) (accounts.Reads z) (λ acc. IsTold z.c (file_of z) z.trace_name z.workers WriteFault acc)
      (Some z.c)
      (lines_work (closing_of n (trace_of octets).fault) (start z.workers z.first.plan) [] (trace_of octets).lines)
      (first_plan_line z.first.name z.first.bound)) (ap length lines) all)

-- the plan's verdict
on_verdict : (goes : Goes) (c : Contents) (plan : PlanFile) (trace : List ℕ) (workers : ℕ)
    → ((first : Network) (octets : List ℕ) → c trace ≡ Some octets → AllByRecursion (HasOctets first) (trace_of octets).lines)
    → (octets : List ℕ) → c plan.name ≡ Some octets → length octets ≤ plan.limits.octets → (first : Network)
    → plan_within plan.limits octets ≡ Ok first → (v : Verdict)
    → IsJudged first v
    → Through (EndsAny c plan trace workers) (ReadsAny c plan trace workers) (FrontsAny c plan trace workers) (Some c)
    (replayed plan.name trace workers first v)
    []
on_verdict goes c plan trace workers oct octets file few first is (verdicts.Accepted a) j =
    let under : first.limits ≡ plan.limits = keeps_limits plan.limits octets first is in
    let same : plan_file plan.name first.limits ≡ plan = ap (plan_file plan.name) under in
    subst (λ (f : PlanFile). Through (EndsAny c f trace workers) (ReadsAny c f trace workers) (FrontsAny c f trace workers) (Some c)
    (replayed plan.name trace workers first (verdicts.Accepted a)) []) same
    (traced goes (record {
      c = c;
      trace_name = trace;
      workers = workers;
      first = record { name = plan.name; plan = first; bound = a.bound };
      accepted = record {
        octets = octets;
        file = file;
        within = subst (λ (ls : Limits). length octets ≤ ls.octets) (sym under) few;
        reads = subst (λ (ls : Limits). plan_within ls octets ≡ Ok first) (sym under) is;
        safe = j.1.0;
        longest = a.longest;
        tight = j.1.1;
      };
      is_plan = j.0;
    }) (oct first))
on_verdict goes c plan trace workers oct octets file few first is (verdicts.Refused same w) j =
    other_answer c plan trace workers Refused (verdict_text first (verdicts.Refused same w)) (refused_other first same w) (λ e. cc)
    (λ e. cc) (octets, file, few, (first, is, (w, j.1)))
    (λ on. (octets, file, few, (first, is, record { verdict = verdicts.Refused same w; lawful = j.1; status = refl; whole = refl })))
on_verdict goes c plan trace workers oct octets file few first is (verdicts.TooWide same) j =
    other_answer c plan trace workers TooWide (verdict_text first (verdicts.TooWide same)) (wide_other first same) (λ e. cc) (λ e. cc)
    (octets, file, few, (first, is, j.1))
    (λ on. (octets, file, few, (first, is, record { verdict = verdicts.TooWide same; lawful = j.1; status = refl; whole = refl })))

on_plan : (goes : Goes) (c : Contents) (plan : PlanFile) (trace : List ℕ) (workers : ℕ)
    → ((first : Network) (octets : List ℕ) → c trace ≡ Some octets → AllByRecursion (HasOctets first) (trace_of octets).lines)
    → (octets : List ℕ) → c plan.name ≡ Some octets → length octets ≤ plan.limits.octets → (r : Result Network PlanFault)
    → plan_within plan.limits octets ≡ r
    → Through (EndsAny c plan trace workers) (ReadsAny c plan trace workers) (FrontsAny c plan trace workers) (Some c)
    (planned plan.limits r (λ first. judge first (replayed plan.name trace workers first))) []
on_plan goes c plan trace workers oct octets file few (Ok first) is =
    λ v j. on_verdict goes c plan trace workers oct octets file few first is v j
on_plan goes c plan trace workers oct octets file few (Err fault) is =
    other_answer c plan trace workers BadPlan (bad_plan plan.limits fault)
    (bad_plan_other plan.limits fault) (λ e. cc) (λ e. cc) (octets, file, few, ap is_err is) (λ on. absurd on)

replay_through : (goes : Goes) (c : Contents) (plan : PlanFile) (trace : List ℕ) (workers : ℕ)
    → ((first : Network) (octets : List ℕ) → c trace ≡ Some octets → AllByRecursion (HasOctets first) (trace_of octets).lines)
    → Through (EndsAny c plan trace workers) (ReadsAny c plan trace workers) (FrontsAny c plan trace workers) (Some c)
    (replay_work plan trace workers) []
unfolding replay_work
replay_through goes c plan trace workers oct = (inl refl, λ octets file. by octets file (ltb plan.limits.octets (length octets)) refl) where
  by : (octets : List ℕ) → c plan.name ≡ Some octets → (b : Bool) → ltb plan.limits.octets (length octets) ≡ b
      → Through (EndsAny c plan trace workers) (ReadsAny c plan trace workers) (FrontsAny c plan trace workers) (Some c)
      (cond b (answered (TooLong, too_long_line plan.limits))
      (planned plan.limits (plan_within plan.limits octets) (λ first. judge first (replayed plan.name trace workers first)))) []
  by octets file true e = other_answer c plan trace workers TooLong (too_long_line plan.limits)
      (too_long_other plan.limits) (λ e. cc) (λ e. cc) (inl (octets, file, ltb-true plan.limits.octets (length octets) e)) (λ on. absurd on)
  by octets file false e = on_plan goes c plan trace workers oct octets file (ltb-false plan.limits.octets (length octets) e)
      (plan_within plan.limits octets) refl

-- ---- whatever the answer

neither : {s : Status} → (s ≡ Done → ⊥) → (s ≡ BadTrace → ⊥) → (s ≡ Done) ⊎ (s ≡ BadTrace) → ⊥
neither p q (inl e) = p e
neither p q (inr e) = q e

with_last : {c : Contents} {plan : PlanFile} {workers : ℕ} {lines : List Numbered} {text : List ℕ} (last : List ℕ)
    → Account c plan workers lines [] text → Account c plan workers lines last (text ++ last)
with_last {c} {plan} {workers} {lines} {text} last h = record {
  first = h.first;
  named = h.named;
  under = h.under;
  accepted = h.accepted;
  pieces = h.pieces;
  of_lines = h.of_lines;
  plans = h.plans;
  messages = h.messages;
  whole = ap (λ t. t ++ last) (h.whole ∙ ap (λ t. first_plan_line plan.name h.first.bound ++ t)
      (append-nil (flat_map (λ p. p.text) h.pieces)))
      ∙ append_assoc (first_plan_line plan.name h.first.bound) (flat_map (λ p. p.text) h.pieces) last;
}

faulted : (c : Contents) (plan : PlanFile) (trace : List ℕ) (workers : ℕ) (written : List ℕ) → ReadsAny c plan trace workers written
    → TellsReplay c plan trace workers ReadFault (written ++ read_fault)
faulted c plan trace workers written (inl e) = record {
  told = λ is. absurd (read_fault_other read_fault (starts_whole read_fault)
      (subst (λ w. StartsWith (w ++ read_fault) (codes "plan 1 ")) e is));
  begins = λ e. absurd (neither (λ f. cc) (λ f. cc) e);
}
faulted c plan trace workers written (inr r) = record {
  told = λ is. record {
    count = r.0;
    last = read_fault;
    whole = written
        ++ read_fault;
    account = with_last read_fault r.1;
    so = (refl, refl);
  };
  begins = λ e. absurd (neither (λ f. cc) (λ f. cc) e);
}

-- a front of what was written before a reading and of the line on the fault
cut_faulted : (c : Contents) (plan : PlanFile) (trace : List ℕ) (workers : ℕ) (written front : List ℕ)
    → ReadsAny c plan trace workers written
    → StartsWith read_fault front
    → FrontsAny c plan trace workers (written ++ front)
cut_faulted c plan trace workers written front (inl e) starts is =
    absurd (read_fault_other front starts (subst (λ w. StartsWith (w ++ front) (codes "plan 1 ")) e is))
cut_faulted c plan trace workers written front (inr r) starts is = record {
  count = r.0;
  last = read_fault;
  whole = written ++ read_fault;
  account = with_last read_fault r.1;
  so = (starts_behind written read_fault front starts, inr (ReadFault, refl));
}

none_begun : (c : Contents) (plan : PlanFile) (trace : List ℕ) (workers : ℕ) → FrontsAny c plan trace workers []
none_begun c plan trace workers = λ is. absurd (nothing is) where
  nothing : StartsWith [] (codes "plan 1 ") → ⊥
  nothing e = cc

front_so : (c : Contents) (plan : PlanFile) (trace : List ℕ) (workers : ℕ) (work : Work) (text : List ℕ)
    → Through (EndsAny c plan trace workers) (ReadsAny c plan trace workers) (FrontsAny c plan trace workers) (Some c) work []
    → BeginsWith (Some c) work text → FrontsAny c plan trace workers text
front_so c plan trace workers work text h e = fronts_of (EndsAny c plan trace workers) (ReadsAny c plan trace workers)
    (FrontsAny c plan trace workers)
    (Some c) work [] text (none_begun c plan trace workers) h e

reads_so : (c : Contents) (plan : PlanFile) (trace : List ℕ) (workers : ℕ) (work : Work) (text : List ℕ)
    → Through (EndsAny c plan trace workers) (ReadsAny c plan trace workers) (FrontsAny c plan trace workers) (Some c) work []
    → ComesToReading (Some c) work text → ReadsAny c plan trace workers text
reads_so c plan trace workers work text h e = reads_of (EndsAny c plan trace workers) (ReadsAny c plan trace workers)
    (FrontsAny c plan trace workers)
    (Some c) work [] text h e

ends_so : (c : Contents) (plan : PlanFile) (trace : List ℕ) (workers : ℕ) (work : Work) (s : Status) (text : List ℕ)
    → Through (EndsAny c plan trace workers) (ReadsAny c plan trace workers) (FrontsAny c plan trace workers) (Some c) work []
    → Ends (Some c) work s text
    → EndsAny c plan trace workers s text
ends_so c plan trace workers work s text h e = ends_of (EndsAny c plan trace workers) (ReadsAny c plan trace workers)
    (FrontsAny c plan trace workers)
    (Some c) work [] text s h e

front_of_fault : (c : Contents) (plan : PlanFile) (trace : List ℕ) (workers : ℕ) (text written front : List ℕ)
    → ReadsAny c plan trace workers written
    → StartsWith read_fault front
    → text ≡ written ++ front → FrontsAny c plan trace workers text
front_of_fault c plan trace workers text written front r starts same =
    subst (FrontsAny c plan trace workers) (sym same) (cut_faulted c plan trace workers written front r starts)

cut_short : (c : Contents) (plan : PlanFile) (trace : List ℕ) (workers : ℕ) (work : Work) (text : List ℕ) (b a : Moment)
    → b.contents ≡ Some c
    → Through (EndsAny c plan trace workers) (ReadsAny c plan trace workers) (FrontsAny c plan trace workers) (Some c) work []
    → IsCutShort work text b a → FrontsAny c plan trace workers text
cut_short c plan trace workers work text b a is h (inl e) =
    front_so c plan trace workers work text h (subst (λ k. BeginsWith k work text) is e)
cut_short c plan trace workers work text b a is h (inr e) =
    front_of_fault c plan trace workers text e.1.0 e.1.1 (reads_so c plan trace workers work e.1.0 h
    (subst (λ k. ComesToReading k work e.1.0) is e.1.2)) e.1.3 e.1.4

as_wanting : (c : Contents) (plan : PlanFile) (trace : List ℕ) (workers : ℕ) (text : List ℕ) → IsTold c plan trace workers WriteFault text
    → IsTold c plan trace workers NoMemory text
as_wanting c plan trace workers text t = record { count = t.count; last = t.last; whole = t.whole; account = t.account; so = t.so }

pub told_so : (c : Contents) (plan : PlanFile) (trace : List ℕ) (workers : ℕ) (work : Work) (s : Status) (text : List ℕ) (b a : Moment)
    → b.contents ≡ Some c
    → Through (EndsAny c plan trace workers) (ReadsAny c plan trace workers) (FrontsAny c plan trace workers) (Some c) work []
    → Answers work s text b a
    → TellsReplay c plan trace workers s text
told_so c plan trace workers work WriteFault text b a is h e =
    record { told = cut_short c plan trace workers work text b a is h e.1; begins = λ f. absurd (neither (λ g. cc) (λ g. cc) f) }
told_so c plan trace workers work NoMemory text b a is h e =
    record {
      told = λ begun. as_wanting c plan trace workers text (cut_short c plan trace workers work text b a is h e begun);
      begins = λ f. absurd
          (neither (λ g. cc) (λ g. cc) f);
    }
told_so c plan trace workers work ReadFault text b a is h e =
    subst (TellsReplay c plan trace workers ReadFault) (sym e.1.2)
    (faulted c plan trace workers e.1.0 (reads_so c plan trace workers work e.1.0 h (subst (λ k. ComesToReading k work e.1.0) is e.1.1)))
told_so c plan trace workers work s text b a is h e = (ends_so c plan trace workers work s text h (subst (λ k. Ends k work s text) is e)).0

-- what a replay prints, whatever it answers
pub replay_told : (goes : Goes) (c : Contents) (plan : PlanFile) (trace : List ℕ) (workers : ℕ) (s : Status) (b a : Moment)
    → b.contents ≡ Some c
    → (o : Outcome (replay_work plan trace workers) s b a) → TellsReplay c plan trace workers s o.text
replay_told goes c plan trace workers s b a is o =
    told_so c plan trace workers (replay_work plan trace workers) s o.text b a is
    (replay_through goes c plan trace workers (λ first octets there. trace_octets first octets)) o.answers

-- why a replay that was not cut short ended so
pub replay_ends : (goes : Goes) (c : Contents) (plan : PlanFile) (trace : List ℕ) (workers : ℕ) (s : Status) (text : List ℕ)
    → Ends (Some c) (replay_work plan trace workers) s text → ReplayCause c plan trace s
replay_ends goes c plan trace workers s text e =
    (ends_so c plan trace workers (replay_work plan trace workers) s text
    (replay_through goes c plan trace workers (λ first octets there. trace_octets first octets)) e).1

told_verdict : {p : Network} {s : Status} {text : List ℕ} (taken taken' : Option (List ℕ)) → taken' ≡ append_known taken text
    → IsVerdict p s text → Tells p s taken taken'
told_verdict taken taken' is v = record {
  verdict = v.verdict;
  lawful = v.lawful;
  status = v.status;
  text = is
      ∙ ap (λ t. append_known taken t) v.whole;
}

-- a refusal gives a lawful verdict
pub verdict_ends : (goes : Goes) (c : Contents) (plan : PlanFile) (trace : List ℕ) (workers : ℕ) (s : Status) (text : List ℕ)
    (taken taken' : Option (List ℕ)) → taken' ≡ append_known taken text
    → (IsOnRefusal s → Ends (Some c) (replay_work plan trace workers) s text) → ReplayTells c plan s taken taken'
verdict_ends goes c plan trace workers s text taken taken' is ends = λ on.
    let v = (ends_so c plan trace workers (replay_work plan trace workers) s text
    (replay_through goes c plan trace workers (λ first octets there. trace_octets first octets)) (ends on)).2 on in
    (v.0, v.1, v.2, (v.3.0, v.3.1, told_verdict taken taken' is v.3.2))
