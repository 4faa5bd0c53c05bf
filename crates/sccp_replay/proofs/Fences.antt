-- A replay of a trace whose plan lines are fenced does by any number of workers what it may do by one.
use Rattle.std.proofs.Common.{◌≡◌, ◌⊎◌, ◌<◌, ◌≤◌, ℕ, zero, suc, List, [], ◌∷◌, ◌++◌, length, Bool, true, false, cond, ltb, Option, Some}
use Rattle.std.proofs.Common.{Result, Ok, Err, refl, sym, ◌∙◌, ap, subst, append_assoc, arith, inl, inr}
use Rattle.std.specs.List.{AllByRecursion, filter_map, slice_index_or}
use Rattle.std.specs.Option.{option_map_or}
use Rattle.std.proofs.lemmas.List.Elements.{filter_map-append}
use Rattle.plan_model.specs.Network.{Network}
use Rattle.plan_model.specs.SameNodes.{same_nodes}
use Rattle.plan_model.specs.declared.limits.Limits.{Limits}
use Rattle.plan_model.specs.declared.plan_fault.PlanFault.{PlanFault}
use Rattle.plan_text.specs.PlanText.{plan_within}
use Rattle.plan_verify.specs.declared.verdict.Verdict.{Verdict}
use Rattle.plan_verify.specs.declared.verdict.Verdict.TheVariants as verdicts
use Rattle.relay_net.specs.Batches.{Incoming, Due, applied_after}
use Rattle.relay_net.specs.States.{State}
use Rattle.sccp_base.specs.declared.mark.Mark.{Mark}
use Rattle.sccp_io.specs.Files.{Contents, Reads}
use Rattle.sccp_report.specs.Limits.{too_long_line}
use Rattle.sccp_report.specs.Roles.{Role, routed, later, aside, alone, role_of}
use Rattle.sccp_report.specs.Served.{served_text}
use Rattle.trace_text.specs.declared.line.Numbered.{Numbered}
use Rattle.sccp_replay.specs.Fences.{HasFence, IsFenced, HasFences}
use Rattle.sccp_replay.specs.LaterPlans.{first_plan_line, other_nodes_line}
use Rattle.sccp_replay.specs.Replay.{Standing, Settled, prints, routes, accepted, accepted_before, batch_of, settle, settle_line}
use Rattle.sccp_replay.specs.Replay.{later_work}
use Rattle.sccp_replay.specs.Replay.{judged_later, after_text, journey_by, tell, told_at, batch_work, is_full, done_alone, alone_work}
use Rattle.sccp_replay.specs.Replay.{batch_printed, gathered, line_work, lines_work, closing_of, start, replayed}
use Rattle.sccp_replay.specs.Replay.{replay_work}
use Rattle.sccp_replay.specs.Trace.{trace_of, lines_in}
use Rattle.sccp_work.specs.Ending.{Answers, IsCutShort}
use Rattle.sccp_work.specs.Moment.{Moment}
use Rattle.sccp_work.specs.Numbers.{Batch, AreNumbers}
use Rattle.sccp_work.specs.PlanFile.{PlanFile}
use Rattle.sccp_work.specs.Plans.{planned}
use Rattle.sccp_work.specs.Questions.{Question, Reply, IsTrueOf}
use Rattle.sccp_work.specs.Work.{Work, print, read, ask, judge, read_on, serve, answered, Ends, ComesToReading, BeginsWith}
use Rattle.sccp_work.specs.declared.status.Status.{Status}
use Rattle.sccp_work.specs.declared.status.Status.TheVariants.{Done, Refused, Usage, BadPlan, BadTrace, TooWide, TooLong, OtherNodes}
use Rattle.sccp_work.specs.declared.status.Status.TheVariants.{BadCapture, Differs, NoMemory, ReadFault, WriteFault}
use Rattle.sccp_replay.proofs.Holding.{Joins}
use Rattle.sccp_replay.proofs.Parts.{all_back, all_push}

-- ---- one work may do all that another may

pub record IsWithin (k : Option Contents) (w v : Work) : Type 0 where
  pub ends : (s : Status) (t : List ℕ) → Ends k w s t → Ends k v s t
  pub reads : (t : List ℕ) → ComesToReading k w t → ComesToReading k v t
  pub begins : (t : List ℕ) → BeginsWith k w t → BeginsWith k v t

itself : (k : Option Contents) (w : Work) → IsWithin k w w
itself k w = record { ends = λ s t h. h; reads = λ t h. h; begins = λ t h. h }

in_print : (k : Option Contents) (t : List ℕ) (w v : Work) → IsWithin k w v → IsWithin k (print t w) (print t v)
in_print k t w v i = record {
  ends = λ s x h. (h.0, h.1, i.ends s h.0 h.2);
  reads = λ x h. (h.0, h.1, i.reads h.0 h.2);
  begins = λ x h. on x h;
} where
  on : (x : List ℕ) → BeginsWith k (print t w) x → BeginsWith k (print t v) x
  on x (inl e) = inl e
  on x (inr h) = inr (h.0, h.1, i.begins h.0 h.2)

in_read : (k : Option Contents) (name : List ℕ) (f g : List ℕ → Work)
    → ((octets : List ℕ) → Reads k name octets → IsWithin k (f octets) (g octets)) → IsWithin k (read name f) (read name g)
in_read k name f g i = record {
  ends = λ s t h. (h.0, h.1, (i h.0 h.1).ends s t h.2);
  reads = λ t h. on_reads t h;
  begins = λ t h. on_begins t h;
} where
  on_reads : (t : List ℕ) → ComesToReading k (read name f) t → ComesToReading k (read name g) t
  on_reads t (inl e) = inl e
  on_reads t (inr h) = inr (h.0, h.1, (i h.0 h.1).reads t h.2)

  on_begins : (t : List ℕ) → BeginsWith k (read name f) t → BeginsWith k (read name g) t
  on_begins t (inl e) = inl e
  on_begins t (inr h) = inr (h.0, h.1, (i h.0 h.1).begins t h.2)

in_ask : (k : Option Contents) (q : Question) (f g : Reply q → Work)
    → ((reply : Reply q) → IsTrueOf q reply → IsWithin k (f reply) (g reply)) → IsWithin k (ask q f) (ask q g)
in_ask k q f g i = record {
  ends = λ s t h. (h.0, h.1, (i h.0 h.1).ends s t h.2);
  reads = λ t h. (h.0, h.1, (i h.0 h.1).reads t h.2);
  begins = λ t h. on t h;
} where
  on : (t : List ℕ) → BeginsWith k (ask q f) t → BeginsWith k (ask q g) t
  on t (inl e) = inl e
  on t (inr h) = inr (h.0, h.1, (i h.0 h.1).begins t h.2)

in_read_on : (k : Option Contents) (w v : Work) → IsWithin k w v → IsWithin k (read_on w) (read_on v)
in_read_on k w v i = record { ends = i.ends; reads = λ t h. on t h; begins = i.begins } where
  on : (t : List ℕ) → ComesToReading k (read_on w) t → ComesToReading k (read_on v) t
  on t (inl e) = inl e
  on t (inr h) = inr (i.reads t h)

in_serve : (k : Option Contents) (b c : Batch) (f g : List ℕ → Work)
    → ((ns : List ℕ) → AreNumbers b ns → AreNumbers c ns × IsWithin k (f ns) (g ns)) → IsWithin k (serve b f) (serve c g)
in_serve k b c f g i = record {
  ends = λ s t h. let j = i h.0 h.1 in (h.0, j.0, j.1.ends s t h.2);
  reads = λ t h. let j = i h.0 h.1 in (h.0, j.0, j.1.reads t h.2);
  begins = λ t h. on t h;
} where
  on : (t : List ℕ) → BeginsWith k (serve b f) t → BeginsWith k (serve c g) t
  on t (inl e) = inl e
  on t (inr h) = let j = i h.0 h.1 in inr (h.0, j.0, j.1.begins t h.2)

-- ---- a batch with messages or with plan lines alone

-- the same state by one worker
abbrev one : Standing → Standing
one at = record at { workers = 1 }

abbrev NamesNone : Network → Numbered → Type 0
NamesNone first l = (name : List ℕ) → role_of first l.line ≡ later name → ⊥

abbrev SendsNone : Network → Numbered → Type 0
SendsNone first l = (x : Incoming) → role_of first l.line ≡ routed x → ⊥

abbrev IsPlain : Network → List Numbered → Type 0
IsPlain first ls = AllByRecursion (NamesNone first) ls ⊎ AllByRecursion (SendsNone first) ls

-- a message before which this number of plans was accepted
abbrev IsBefore : ℕ → Settled → Type 0
IsBefore n (prints text) = Unit {0}
IsBefore n (routes line x before) = before ≡ n

-- What is known of the settled lines of such a batch: no plan was accepted since it began, or none of them is a message.
abbrev IsPlanless : Standing → Standing → List Settled → Type 0
IsPlanless base at done = (at ≡ base) × AllByRecursion (IsBefore (accepted base)) done

abbrev IsSilent : Standing → Standing → List Settled → Type 0
IsSilent base at done = (at.first ≡ base.first) × (filter_map accepted_before done ≡ [])

all_one : (n : ℕ) (ss : List Settled) (ns : List ℕ) → AllByRecursion (IsBefore n) ss → length ns ≡ length (filter_map accepted_before ss)
    → AllByRecursion (λ m. (n ≤ m) × (m ≤ n)) ns → ns ≡ filter_map accepted_before ss
all_one n [] [] h e r = refl
all_one n [] (m ∷ ns) h e r = absurd (omega (arith, e))
all_one n (prints text ∷ ss) ns h e r = all_one n ss ns h.1 e r
all_one n (routes line x before ∷ ss) [] h e r = absurd (omega (arith, e))
all_one n (routes line x before ∷ ss) (m ∷ ns) h e r =
    let same : m ≡ before = omega (arith, h.0, r.0.0, r.0.1) in
    λ i. same i ∷ all_one n ss ns h.1 (omega (arith, e)) r.1 i

no_numbers : (ns : List ℕ) → length ns ≡ 0 → ns ≡ []
no_numbers [] e = refl
no_numbers (n ∷ ns) e = absurd (omega (arith, e))

planless_numbers : (base at : Standing) (ss : List Settled) (ns : List ℕ) → IsPlanless base at ss → AreNumbers (batch_of base at ss) ns
    → AreNumbers (batch_of (one base) (one at) ss) ns
planless_numbers base at ss ns h (inl e) = inl (refl, e.1)
planless_numbers base at ss ns h (inr e) = inl (
  refl,
  all_one (accepted base) ss ns h.1 e.1.each
      (subst (λ a. AllByRecursion (λ m. (accepted base ≤ m) × (m ≤ accepted a)) ns) h.0 e.1.range),
)

silent_numbers : (base at : Standing) (ss : List Settled) (ns : List ℕ) → IsSilent base at ss → AreNumbers (batch_of base at ss) ns
    → AreNumbers (batch_of (one base) (one at) ss) ns
silent_numbers base at ss ns h (inl e) = inl (refl, e.1)
silent_numbers base at ss ns h (inr e) = inl (refl, no_numbers ns (e.1.each ∙ ap length h.1) ∙ sym h.1)

tell_by_one : (at : Standing) (mk : List (List Mark)) (st : List State) (ss : List Settled) (ns : List ℕ)
    → tell (one at) mk st ss ns ≡ tell at mk st ss ns
unfolding tell
tell_by_one at mk st [] ns = refl
tell_by_one at mk st (prints text ∷ ss) ns = ap (after_text text) (tell_by_one at mk st ss ns)
tell_by_one at mk st (routes line x before ∷ ss) [] = refl
tell_by_one at mk st (routes line x before ∷ ss) (n ∷ ns) =
    let a = applied_after at.first st x (journey_by at mk x n) in
    ap (after_text (served_text at.first line n (journey_by at mk x n) a.outcomes)) (tell_by_one at mk a.states ss ns)

none_push : (done : List Settled) (text : List ℕ) → filter_map accepted_before done ≡ []
    → filter_map accepted_before (done ++ prints text ∷ []) ≡ []
none_push done text h = filter_map-append accepted_before done (prints text ∷ []) ∙ (λ i. h i ++ [])

-- a line of a batch, if this is known of what it is settled to
judged_within : (k : Option Contents) (K : Standing → Settled → Type 0) (at : Standing) (line : ℕ) (name : List ℕ) (plan : Network)
    (v : Verdict) (next next' : Standing → Settled → Work) → ((text : List ℕ) → K at (prints text))
    → ((p : Network) (text : List ℕ) → K (record at { later = at.later ++ p ∷ [] }) (prints text))
    → ((at' : Standing) (s : Settled) → K at' s → IsWithin k (next at' s) (next' (one at') s))
    → IsWithin k (judged_later at line name plan v next) (judged_later (one at) line name plan v next')
judged_within k K at line name plan (verdicts.Accepted a) next next' text plans go =
    go (record at { later = at.later ++ plan ∷ [] }) _ (plans plan _)
judged_within k K at line name plan (verdicts.Refused same w) next next' text plans go = go at _ (text _)
judged_within k K at line name plan (verdicts.TooWide same) next next' text plans go = go at _ (text _)

later_within : (k : Option Contents) (K : Standing → Settled → Type 0) (at : Standing) (line : ℕ) (name : List ℕ)
    (r : Result Network PlanFault) (next next' : Standing → Settled → Work) → ((text : List ℕ) → K at (prints text))
    → ((p : Network) (text : List ℕ) → K (record at { later = at.later ++ p ∷ [] }) (prints text))
    → ((at' : Standing) (s : Settled) → K at' s → IsWithin k (next at' s) (next' (one at') s))
    → IsWithin k (later_work at line name r next) (later_work (one at) line name r next')
later_within k K at line name (Err fault) next next' text plans go = go at _ (text _)
later_within k K at line name (Ok plan) next next' text plans go = by (same_nodes at.first plan) where
  by : (b : Bool) → IsWithin k (cond b (judge plan (λ v. judged_later at line name plan v next))
      (next at (prints (other_nodes_line line name))))
      (cond b (judge plan (λ v. judged_later (one at) line name plan v next')) (next' (one at) (prints (other_nodes_line line name))))
  by true = in_ask k _ _ _ (λ v j. judged_within k K at line name plan v next next' text plans go)
  by false = go at _ (text _)

line_within : (k : Option Contents) (K : Standing → Settled → Type 0) (at : Standing) (l : Numbered) (r : Role)
    (next next' : Standing → Settled → Work) → ((text : List ℕ) → K at (prints text))
    → ((x : Incoming) → r ≡ routed x → K at (routes l.number x (accepted at)))
    → ((name : List ℕ) → r ≡ later name → (p : Network) (text : List ℕ) → K (record at { later = at.later ++ p ∷ [] }) (prints text))
    → ((at' : Standing) (s : Settled) → K at' s → IsWithin k (next at' s) (next' (one at') s))
    → IsWithin k (settle_line at l r next) (settle_line (one at) l r next')
line_within k K at l (later name) next next' text sent plans go =
    in_read k name _ _ (λ octets there. by (ltb at.first.limits.octets (length octets)) octets)
  where
    by : (b : Bool) (octets : List ℕ)
        → IsWithin k (cond b (answered (TooLong, too_long_line at.first.limits))
        (later_work at l.number name (plan_within at.first.limits octets) next))
        (cond b (answered (TooLong, too_long_line at.first.limits))
        (later_work (one at) l.number name (plan_within at.first.limits octets) next'))
    by true octets = itself k (answered (TooLong, too_long_line at.first.limits))
    by false octets = later_within k K at l.number name (plan_within at.first.limits octets) next next' text (plans name refl) go
line_within k K at l (routed x) next next' text sent plans go = go at _ (sent x refl)
line_within k K at l aside next next' text sent plans go = go at _ (text _)
line_within k K at l (alone d) next next' text sent plans go = go at _ (text _)

planless_within : (k : Option Contents) (base : Standing) (next next' : Standing → List Settled → Work)
    → ((at : Standing) (ss : List Settled) → IsPlanless base at ss → IsWithin k (next at ss) (next' (one at) ss))
    → (lines : List Numbered) (at : Standing) (done : List Settled) → AllByRecursion (NamesNone base.first) lines → IsPlanless base at done
    → IsWithin k (settle at done lines next) (settle (one at) done lines next')
unfolding settle
planless_within k base next next' go [] at done none h = go at done h
planless_within k base next next' go (l ∷ lines) at done none h =
    line_within k (λ at' s. IsPlanless base at' (done ++ s ∷ [])) at l (role_of at.first l.line)
    (λ at' s. settle at' (done ++ s ∷ []) lines next) (λ at' s. settle at' (done ++ s ∷ []) lines next')
    (λ text. (h.0, all_push (IsBefore (accepted base)) done (prints text) h.1 tt))
    (λ x e. (h.0, all_push (IsBefore (accepted base)) done (routes l.number x (accepted at)) h.1 (ap accepted h.0)))
    (λ name e. absurd (none.0 name (subst (λ a. role_of a.first l.line ≡ later name) h.0 e)))
    (λ at' s h'. planless_within k base next next' go lines at' (done ++ s ∷ []) none.1 h')

silent_within : (k : Option Contents) (base : Standing) (next next' : Standing → List Settled → Work)
    → ((at : Standing) (ss : List Settled) → IsSilent base at ss → IsWithin k (next at ss) (next' (one at) ss))
    → (lines : List Numbered) (at : Standing) (done : List Settled) → AllByRecursion (SendsNone base.first) lines → IsSilent base at done
    → IsWithin k (settle at done lines next) (settle (one at) done lines next')
unfolding settle
silent_within k base next next' go [] at done none h = go at done h
silent_within k base next next' go (l ∷ lines) at done none h =
    line_within k (λ at' s. IsSilent base at' (done ++ s ∷ [])) at l (role_of at.first l.line)
    (λ at' s. settle at' (done ++ s ∷ []) lines next) (λ at' s. settle at' (done ++ s ∷ []) lines next')
    (λ text. (h.0, none_push done text h.1))
    (λ x e. absurd (none.0 x (subst (λ f. role_of f l.line ≡ routed x) h.0 e)))
    (λ name e p text. (h.0, none_push done text h.1))
    (λ at' s h'. silent_within k base next next' go lines at' (done ++ s ∷ []) none.1 h')

-- ---- a batch

abbrev GoesOn : Option Contents → Network → (Standing → List ℕ → Work) → (Standing → List ℕ → Work) → Type 0
GoesOn k first next next' = (at : Standing) (text : List ℕ) → at.first ≡ first → IsWithin k (next at text) (next' (one at) text)

-- what is printed of a batch, and the state after it
served_within : (k : Option Contents) (first : Network) (at : Standing) (ss : List Settled) (ns : List ℕ)
    (next next' : Standing → List ℕ → Work) → at.first ≡ first → GoesOn k first next next'
    → IsWithin k (next (record at { states = (told_at at ss ns).states }) (told_at at ss ns).text)
    (next' (record (one at) { states = (told_at (one at) ss ns).states }) (told_at (one at) ss ns).text)
served_within k first at ss ns next next' same go =
    subst (λ t. IsWithin k (next (record at { states = (told_at at ss ns).states }) (told_at at ss ns).text)
    (next' (record (one at) { states = t.states }) t.text)) (sym (tell_by_one at _ at.states ss ns))
    (go (record at { states = (told_at at ss ns).states }) (told_at at ss ns).text same)

batch_within : (k : Option Contents) (first : Network) (lines : List Numbered) (at : Standing) (next next' : Standing → List ℕ → Work)
    → at.first ≡ first → IsPlain first lines → GoesOn k first next next'
    → IsWithin k (batch_work at lines next) (batch_work (one at) lines next')
unfolding batch_work
batch_within k first lines at next next' same (inl none) go =
    planless_within k at
    (λ at' ss. serve (batch_of at at' ss) (λ ns. next (record at' { states = (told_at at' ss ns).states }) (told_at at' ss ns).text))
    (λ at' ss. serve (batch_of (one at) at' ss) (λ ns. next' (record at' { states = (told_at at' ss ns).states }) (told_at at' ss ns).text))
    (λ at' ss h. in_serve k (batch_of at at' ss) (batch_of (one at) (one at') ss) _ _ (λ ns are. (
      planless_numbers at at' ss ns h are,
      served_within k first at' ss ns next next' (ap (λ a. a.first) h.0 ∙ same) go,
    )))
    lines at [] (subst (λ f. AllByRecursion (NamesNone f) lines) (sym same) none) (refl, tt)
batch_within k first lines at next next' same (inr none) go =
    silent_within k at
    (λ at' ss. serve (batch_of at at' ss) (λ ns. next (record at' { states = (told_at at' ss ns).states }) (told_at at' ss ns).text))
    (λ at' ss. serve (batch_of (one at) at' ss) (λ ns. next' (record at' { states = (told_at at' ss ns).states }) (told_at at' ss ns).text))
    (λ at' ss h. in_serve k (batch_of at at' ss) (batch_of (one at) (one at') ss) _ _ (λ ns are. (
      silent_numbers at at' ss ns h are,
      served_within k first at' ss ns next next' (h.0 ∙ same) go,
    )))
    lines at [] (subst (λ f. AllByRecursion (SendsNone f) lines) (sym same) none) (refl, refl)

-- ---- all lines

-- the line stands alone, and no line that joins a batch does
among_joins : (first : Network) (ls : List Numbered) → AllByRecursion (Joins first) ls → HasFence first ls → ⊥
among_joins first ls h f = all_contains (Joins first) ls f.0 h f.1.0 f.1.1 f.1.2 f.2 f.3 where
  all_contains : (P : Numbered → Type 0) (xs : List Numbered) (x : Numbered) → AllByRecursion P xs → (i : ℕ) → i < length xs
      → slice_index_or xs i x ≡ x → P x
  all_contains P [] x all i le e = absurd (omega (arith, le))
  all_contains P (y ∷ ys) x all zero le e = subst P e all.0
  all_contains P (y ∷ ys) x all (suc i) le e = all_contains P ys x all.1 i (omega (arith, le)) e

-- no line of these has a role, if the place of each shows it
all_parts : (P : Numbered → Type 0) (ls : List Numbered) → ((b : List Numbered) (l : Numbered) (a : List Numbered) → ls ≡ b ++ l ∷ a → P l)
    → AllByRecursion P ls
all_parts P [] h = tt
all_parts P (l ∷ ls) h = (h [] l ls refl, all_parts P ls (λ b m a e. h (l ∷ b) m a (ap (λ k. l ∷ k) e)))

joins_behind : (first : Network) (batch b c : List Numbered) (m : Numbered) → AllByRecursion (Joins first) batch → batch ≡ b ++ m ∷ c
    → AllByRecursion (Joins first) c
joins_behind first batch b c m joins e = (all_back (Joins first) b (m ∷ c) (subst (AllByRecursion (Joins first)) e joins)).1

-- the place of a line of the batch among all lines
placed : (all done batch b c lines : List Numbered) (m l : Numbered) → all ≡ done ++ (batch ++ l ∷ lines) → batch ≡ b ++ m ∷ c
    → all ≡ (done ++ b) ++ m ∷ (c ++ l ∷ lines)
placed all done batch b c lines m l e f = e ∙ ap (λ k. done ++ (k ++ l ∷ lines)) f
    ∙ ap (λ k. done ++ k) (append_assoc b (m ∷ c) (l ∷ lines)) ∙ sym (append_assoc done b (m ∷ (c ++ l ∷ lines)))

plain_more : (first : Network) (all done batch lines : List Numbered) (l : Numbered) (r : Role) → IsFenced first all
    → all ≡ done ++ (batch ++ l ∷ lines) → AllByRecursion (Joins first) batch → IsPlain first batch → role_of first l.line ≡ r
    → ((d : Option Due) → r ≡ alone d → ⊥) → IsPlain first (batch ++ l ∷ [])
plain_more first all done batch lines l (routed x) fenced e joins plain role never = inl (all_push (NamesNone first) batch l
    (all_parts (NamesNone first) batch (λ b m c f name named. among_joins first c (joins_behind first batch b c m joins f)
    (fenced.plan_first (done ++ b) c lines m l name x (placed all done batch b c lines m l e f) named role)))
    (λ name named. apart (sym role ∙ named))) where
      apart : {name : List ℕ} → routed x ≡ later name → ⊥
      apart g = cc
plain_more first all done batch lines l (later name) fenced e joins plain role never = inr (all_push (SendsNone first) batch l
    (all_parts (SendsNone first) batch (λ b m c f x sent. among_joins first c (joins_behind first batch b c m joins f)
    (fenced.message_first (done ++ b) c lines m l x name (placed all done batch b c lines m l e f) sent role)))
    (λ x sent. apart (sym role ∙ sent))) where
      apart : {x : Incoming} → later name ≡ routed x → ⊥
      apart g = cc
plain_more first all done batch lines l aside fenced e joins (inl none) role never =
    inl (all_push (NamesNone first) batch l none (λ name named. apart (sym role ∙ named))) where
      apart : {name : List ℕ} → aside ≡ later name → ⊥
      apart g = cc
plain_more first all done batch lines l aside fenced e joins (inr none) role never =
    inr (all_push (SendsNone first) batch l none (λ x sent. apart (sym role ∙ sent))) where
      apart : {x : Incoming} → aside ≡ routed x → ⊥
      apart g = cc
plain_more first all done batch lines l (alone d) fenced e joins plain role never = absurd (never d refl)

-- what holds of the lines after a batch that has begun
abbrev Follows : Option Contents → Network → Status × List ℕ → List Numbered → List Numbered → Type 0
Follows k first closing all lines = (batch done : List Numbered) (at : Standing) → at.first ≡ first → all ≡ done ++ (batch ++ lines)
    → AllByRecursion (Joins first) batch → IsPlain first batch
    → IsWithin k (lines_work closing at batch lines) (lines_work closing (one at) batch lines)

gathered_within : (k : Option Contents) (first : Network) (closing : Status × List ℕ) (all lines : List Numbered)
    → Follows k first closing all lines → (batch done : List Numbered) (at : Standing) → at.first ≡ first → all ≡ done ++ (batch ++ lines)
    → AllByRecursion (Joins first) batch → IsPlain first batch
    → IsWithin k (gathered at batch (λ at' batch'. lines_work closing at' batch' lines))
    (gathered (one at) batch (λ at' batch'. lines_work closing at' batch' lines))
gathered_within k first closing all lines follows batch done at same e joins plain = by (is_full batch) where
  by : (b : Bool)
      → IsWithin k (cond b (batch_printed at batch (λ at'. lines_work closing at' [] lines)) (lines_work closing at batch lines))
      (cond b (batch_printed (one at) batch (λ at'. lines_work closing at' [] lines)) (lines_work closing (one at) batch lines))
  by true = in_read_on k _ _ (batch_within k first batch at (λ at' text. print text (lines_work closing at' [] lines))
      (λ at' text. print text (lines_work closing at' [] lines)) same plain
      (λ at' text same'. in_print k text _ _ (follows [] (done ++ batch) at' same' (e ∙ sym (append_assoc done batch lines)) tt (inl tt))))
  by false = follows batch done at same e joins plain

joining_within : (k : Option Contents) (first : Network) (closing : Status × List ℕ) (all : List Numbered) (l : Numbered)
    (lines : List Numbered) → IsFenced first all → Follows k first closing all lines
    → (batch done : List Numbered) (at : Standing) → at.first ≡ first → all ≡ done ++ (batch ++ l ∷ lines)
    → AllByRecursion (Joins first) batch → IsPlain first batch → (r : Role) → role_of first l.line ≡ r
    → ((d : Option Due) → r ≡ alone d → ⊥)
    → IsWithin k (gathered at (batch ++ l ∷ []) (λ at' batch'. lines_work closing at' batch' lines))
    (gathered (one at) (batch ++ l ∷ []) (λ at' batch'. lines_work closing at' batch' lines))
joining_within k first closing all l lines fenced follows batch done at same e joins plain r role never =
    gathered_within k first closing all lines follows (batch ++ l ∷ []) done at same
    (e ∙ ap (λ b. done ++ b) (sym (append_assoc batch (l ∷ []) lines)))
    (all_push (Joins first) batch l joins (λ d f. never d (sym role ∙ f)))
    (plain_more first all done batch lines l r fenced e joins plain role never)

not_routed : {d : Option Due} {x : Incoming} → routed x ≡ alone d → ⊥
not_routed e = cc

not_later : {d : Option Due} {name : List ℕ} → later name ≡ alone d → ⊥
not_later e = cc

not_aside : {d : Option Due} → aside ≡ alone d → ⊥
not_aside e = cc

role_within : (k : Option Contents) (first : Network) (closing : Status × List ℕ) (all : List Numbered) (l : Numbered)
    (lines : List Numbered) → IsFenced first all → Follows k first closing all lines
    → (batch done : List Numbered) (at : Standing) → at.first ≡ first → all ≡ done ++ (batch ++ l ∷ lines)
    → AllByRecursion (Joins first) batch → IsPlain first batch → (r : Role) → role_of first l.line ≡ r
    → IsWithin k (line_work at batch l r (λ at' batch'. lines_work closing at' batch' lines))
    (line_work (one at) batch l r (λ at' batch'. lines_work closing at' batch' lines))
role_within k first closing all l lines fenced follows batch done at same e joins plain (routed x) role =
    joining_within k first closing all l lines fenced follows batch done at same e joins plain (routed x) role (λ d f. not_routed f)
role_within k first closing all l lines fenced follows batch done at same e joins plain (later name) role =
    joining_within k first closing all l lines fenced follows batch done at same e joins plain (later name) role (λ d f. not_later f)
role_within k first closing all l lines fenced follows batch done at same e joins plain aside role =
    joining_within k first closing all l lines fenced follows batch done at same e joins plain aside role (λ d f. not_aside f)
role_within k first closing all l lines fenced follows batch done at same e joins plain (alone d) role =
    in_read_on k _ _ (batch_within k first batch at (alone_work l d (λ at'. lines_work closing at' [] lines))
    (alone_work l d (λ at'. lines_work closing at' [] lines)) same plain
    (λ at' text same'. in_print k _ _ _ (follows [] ((done ++ batch) ++ l ∷ []) (record at' { states = (done_alone at' d).states }) same'
    (e ∙ sym (append_assoc done batch (l ∷ lines)) ∙ sym (append_assoc (done ++ batch) (l ∷ []) lines)) tt (inl tt))))

lines_within : (k : Option Contents) (first : Network) (closing : Status × List ℕ) (all : List Numbered) → IsFenced first all
    → (lines : List Numbered) → Follows k first closing all lines
unfolding lines_work
lines_within k first closing all fenced [] batch done at same e joins plain =
    in_read_on k _ _ (batch_within k first batch at (λ at' text. answered (closing.0, text ++ closing.1))
    (λ at' text. answered (closing.0, text ++ closing.1)) same plain
    (λ at' text same'. itself k (answered (closing.0, text ++ closing.1))))
lines_within k first closing all fenced (l ∷ lines) batch done at same e joins plain =
    subst (λ r. IsWithin k (line_work at batch l r (λ at' batch'. lines_work closing at' batch' lines))
    (line_work (one at) batch l r (λ at' batch'. lines_work closing at' batch' lines))) (ap (λ f. role_of f l.line) (sym same))
    (role_within k first closing all l lines fenced (lines_within k first closing all fenced lines) batch done at same e joins plain
    (role_of first l.line) refl)

-- ---- the whole replay

judged_first : (c : Contents) (plan trace : List ℕ) (workers : ℕ) (first : Network) → IsFenced first (lines_in c trace) → (v : Verdict)
    → IsWithin (Some c) (replayed plan trace workers first v) (replayed plan trace 1 first v)
judged_first c plan trace workers first fenced (verdicts.Accepted a) = in_print (Some c) (first_plan_line plan a.bound) _ _
    (in_read (Some c) trace _ _ (λ octets there.
    let t = trace_of octets in
    let same : lines_in c trace ≡ t.lines = ap (λ o. option_map_or (λ text. (trace_of text).lines) o []) there in
    lines_within (Some c) first (closing_of (length t.lines) t.fault) t.lines (subst (IsFenced first) same fenced) t.lines [] []
    (start workers first) refl refl tt (inl tt)))
judged_first c plan trace workers first fenced (verdicts.Refused same w) =
    itself (Some c) (replayed plan trace 1 first (verdicts.Refused same w))
judged_first c plan trace workers first fenced (verdicts.TooWide same) =
    itself (Some c) (replayed plan trace 1 first (verdicts.TooWide same))

planned_first : (c : Contents) (limits : Limits) (plan trace : List ℕ) (workers : ℕ) (r : Result Network PlanFault)
    → ((first : Network) → r ≡ Ok first → IsFenced first (lines_in c trace))
    → IsWithin (Some c) (planned limits r (λ first. judge first (replayed plan trace workers first)))
    (planned limits r (λ first. judge first (replayed plan trace 1 first)))
planned_first c limits plan trace workers (Ok first) fenced =
    in_ask (Some c) _ _ _ (λ v j. judged_first c plan trace workers first (fenced first refl) v)
planned_first c limits plan trace workers (Err fault) fenced = itself (Some c) _

replay_within : (c : Contents) (plan : PlanFile) (trace : List ℕ) (workers : ℕ) → HasFences c plan trace
    → IsWithin (Some c) (replay_work plan trace workers) (replay_work plan trace 1)
unfolding replay_work
replay_within c plan trace workers fenced =
    in_read (Some c) plan.name _ _ (λ octets there. by (ltb plan.limits.octets (length octets)) octets there)
  where
    by : (b : Bool) (octets : List ℕ) → c plan.name ≡ Some octets
        → IsWithin (Some c) (cond b (answered (TooLong, too_long_line plan.limits))
        (planned plan.limits (plan_within plan.limits octets) (λ first. judge first (replayed plan.name trace workers first))))
        (cond b (answered (TooLong, too_long_line plan.limits))
        (planned plan.limits (plan_within plan.limits octets) (λ first. judge first (replayed plan.name trace 1 first))))
    by true octets there = itself (Some c) (answered (TooLong, too_long_line plan.limits))
    by false octets there = planned_first c plan.limits plan.name trace workers (plan_within plan.limits octets)
        (λ first is. fenced octets first there is)

-- ---- whatever the answer

cut_within : (w v : Work) (text : List ℕ) (b a : Moment) → IsWithin b.contents w v → IsCutShort w text b a → IsCutShort v text b a
cut_within w v text b a i (inl e) = inl (i.begins text e)
cut_within w v text b a i (inr e) = inr (e.0, (e.1.0, e.1.1, i.reads e.1.0 e.1.2, e.1.3, e.1.4))

answers_within : (w v : Work) (s : Status) (text : List ℕ) (b a : Moment) → IsWithin b.contents w v → Answers w s text b a
    → Answers v s text b a
answers_within w v WriteFault text b a i h = (h.0, cut_within w v text b a i h.1)
answers_within w v NoMemory text b a i h = cut_within w v text b a i h
answers_within w v ReadFault text b a i h = (h.0, (h.1.0, i.reads h.1.0 h.1.1, h.1.2))
answers_within w v Done text b a i h = i.ends Done text h
answers_within w v Refused text b a i h = i.ends Refused text h
answers_within w v Usage text b a i h = i.ends Usage text h
answers_within w v BadPlan text b a i h = i.ends BadPlan text h
answers_within w v BadTrace text b a i h = i.ends BadTrace text h
answers_within w v TooWide text b a i h = i.ends TooWide text h
answers_within w v TooLong text b a i h = i.ends TooLong text h
answers_within w v OtherNodes text b a i h = i.ends OtherNodes text h
answers_within w v BadCapture text b a i h = i.ends BadCapture text h
answers_within w v Differs text b a i h = i.ends Differs text h

pub as_by_one : (c : Contents) (plan : PlanFile) (trace : List ℕ) (workers : ℕ) (s : Status) (text : List ℕ) (b a : Moment)
    → b.contents ≡ Some c
    → HasFences c plan trace → Answers (replay_work plan trace workers) s text b a → Answers (replay_work plan trace 1) s text b a
as_by_one c plan trace workers s text b a is fenced h = answers_within (replay_work plan trace workers)
    (replay_work plan trace 1) s text b a
    (subst (λ k. IsWithin k (replay_work plan trace workers) (replay_work plan trace 1)) (sym is)
    (replay_within c plan trace workers fenced)) h
