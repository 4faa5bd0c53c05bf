-- What a replay writes is an account of its trace.
use Rattle.std.proofs.Common.{◌≡◌, ℕ, List, [], ◌∷◌, ◌++◌, length, take, Bool, true, false, cond}
use Rattle.std.proofs.Common.{Option, Some, None, refl, sym, ◌∙◌, ap, subst, append-nil, append_assoc, take_all, arith, inl, inr}
use Rattle.std.specs.Prelude.{IsSomeAnd, IsSome, is_some}
use Rattle.std.specs.Io.{StartsWith}
use Rattle.std.specs.List.{AllByRecursion, Contains}
use Rattle.std.proofs.lemmas.List.{length-append}
use Rattle.std.proofs.lemmas.Grind.{flat_map-append}
use Rattle.std.proofs.Math.Seq.{take-append-add, take-append_seam}
use Rattle.std.proofs.lemmas.List.Elements.{Contains-append_left, Contains-append_right}
use Rattle.plan_model.specs.Network.{Network}
use Rattle.relay_net.specs.Batches.{Incoming, Due}
use Rattle.relay_net.specs.States.{State}
use Rattle.sccp_report.specs.Events.{event_text}
use Rattle.sccp_report.specs.Limits.{too_long_line}
use Rattle.sccp_report.specs.Roles.{Role, routed, later, aside, alone, role_of}
use Rattle.sccp_replay.specs.Trace.{lines_in, fault_in}
use Rattle.trace_text.specs.declared.line.Numbered.{Numbered}
use Rattle.trace_text.specs.declared.line_fault.LineFault.{LineFault}
use Rattle.sccp_replay.specs.Account.{Piece, plans_after, TellsPlan, Account, IsTold, IsLastLine}
use Rattle.sccp_replay.specs.Holding.{managers_of, after_role, managers_after}
use Rattle.sccp_replay.specs.LaterPlans.{first_plan_line}
use Rattle.sccp_replay.specs.Replay.{Standing, batch_of, batch_work, told_at, is_full, settle, start}
use Rattle.sccp_replay.specs.Replay.{done_alone, alone_work, batch_printed, gathered, line_work, lines_work, closing_of, end_line}
use Rattle.sccp_replay.specs.ReplayEnds.{LaterPlansFit, SomeLaterPlanIsLong}
use Rattle.trace_text.specs.declared.line.Line.{Line}
use Rattle.trace_text.specs.declared.line.Line.TheVariants.{Plan}
use Rattle.sccp_work.specs.Work.{Work, answered, serve, read_on}
use Rattle.sccp_work.specs.declared.status.Status.{Status}
use Rattle.sccp_work.specs.declared.status.Status.TheVariants.{Done, BadTrace, TooLong, WriteFault}
use Rattle.sccp_replay.proofs.BatchRuns.{IsOpen, IsRun, run_of, run_more, open_none, open_more, full_ends, alone_ends}
use Rattle.sccp_replay.proofs.Holding.{Joins, alone_changes, managers_alone}
use Rattle.sccp_replay.proofs.Parts.{no_parts, single, all_front, all_back, all_push}
use Rattle.sccp_replay.proofs.Settling.{Scene, file_of, settled_of, Settles, MayStop, settle_through, one_of}
use Rattle.sccp_replay.proofs.SoFar.{SoFar, SoFar-more, texts, batch_pieces, batch_done, is_done}
use Rattle.sccp_replay.proofs.Telling.{Goes, HasOctets, piece_of}
use Rattle.sccp_work.proofs.Through.{Through}

-- ---- a batch

Settles-none : (z : Scene) (at : Standing) → at.first ≡ z.first.plan → Settles z at [] at
Settles-none z at same = record {
  first = same;
  workers = refl;
  states = refl;
  later = sym (append-nil at.later);
  each = λ b e a is. absurd (no_parts b e a is);
  fit = λ number name has. absurd (omega (arith, has.1));
}

batch_through : (ends : Status → List ℕ → Type 0) (reads fronts : List ℕ → Type 0) (goes : Goes) (z : Scene) (lines ls : List Numbered)
    (pieces : List Piece) (at : Standing) (acc : List ℕ) (next : Standing → List ℕ → Work)
    → MayStop ends reads fronts z.c z.first.plan.limits ls acc → SoFar z lines pieces at → AllByRecursion (HasOctets z.first.plan) ls
    → AllByRecursion (Joins z.first.plan) ls → IsRun z.first.plan lines ls
    → ((at' : Standing) (more : List Piece) → SoFar z (lines ++ ls) (pieces ++ more) at'
    → Through ends reads fronts (Some z.c) (next at' (texts more)) acc)
    → Through ends reads fronts (Some z.c) (batch_work at ls next) acc
unfolding batch_work settle
batch_through ends reads fronts goes z lines ls pieces at acc next stop h oct joins run go =
    settle_through ends reads fronts z at ls acc
    (λ at' settled. serve (batch_of at at' settled) (λ numbers. next (record at' { states = (told_at at' settled numbers).states })
    (told_at at' settled numbers).text)) stop
    (λ at' es entries s ns are.
    let b = batch_done goes z lines ls pieces at at' es ns (is_done z lines ls pieces at at' es ns h entries s are oct joins run) in
    subst (λ t. Through ends reads fronts (Some z.c) (next (record at' { states = (told_at at' (settled_of es) ns).states }) t) acc)
    (sym b.1)
    (go (record at' { states = (told_at at' (settled_of es) ns).states }) (batch_pieces at' es ns) b.0))
    ls [] at refl (Settles-none z at h.first)

-- ---- accounts of what was written

all_lines : Scene → List Numbered
all_lines z = lines_in z.c z.trace_name

abbrev pub Fronts : Scene → List ℕ → Type 0
Fronts z acc = IsTold z.c (file_of z) z.trace_name z.workers WriteFault acc

pub record Reads (z : Scene) (acc : List ℕ) : Type 0 where
  pub count : ℕ
  pub account : Account z.c (file_of z) z.workers (take count (lines_in z.c z.trace_name)) [] acc

-- why a replay of a trace that is there ends so
abbrev pub TraceEnds : Scene → Status → Type 0
TraceEnds z Done = (fault_in z.c z.trace_name ≡ None) × LaterPlansFit z.c z.first.plan.limits (lines_in z.c z.trace_name)
TraceEnds z BadTrace = IsSome (fault_in z.c z.trace_name) × LaterPlansFit z.c z.first.plan.limits (lines_in z.c z.trace_name)
TraceEnds z TooLong = SomeLaterPlanIsLong z.c z.first.plan.limits (lines_in z.c z.trace_name)
TraceEnds z s = ⊥

abbrev pub Ends : Scene → Status → List ℕ → Type 0
Ends z s acc = IsTold z.c (file_of z) z.trace_name z.workers s acc × TraceEnds z s

-- what was written is made of these pieces
abbrev pub IsWritten : Scene → List Piece → List ℕ → Type 0
IsWritten z pieces acc = acc ≡ first_plan_line z.first.name z.first.bound ++ texts pieces

pub account_of : (z : Scene) (done rest : List Numbered) (pieces : List Piece) (at : Standing) (last text : List ℕ) → SoFar z done pieces at
    → lines_in z.c z.trace_name ≡ done ++ rest
    → text ≡ first_plan_line z.first.name z.first.bound ++ (texts pieces ++ last)
    → Account z.c (file_of z) z.workers (take (length done) (lines_in z.c z.trace_name)) last text
unfolding texts
account_of z done rest pieces at last text h e whole = record {
  first = z.first;
  named = refl;
  under = refl;
  accepted = z.accepted;
  pieces = pieces;
  of_lines = h.of_lines ∙ sym (ap (take (length done)) e ∙ take-append_seam done rest);
  plans = h.plans;
  messages = h.messages;
  whole = whole;
}

reads_now : (z : Scene) (done rest : List Numbered) (pieces : List Piece) (at : Standing) (acc : List ℕ) → SoFar z done pieces at
    → lines_in z.c z.trace_name ≡ done ++ rest → IsWritten z pieces acc → Reads z acc
reads_now z done rest pieces at acc h e is = record {
  count = length done;
  account = account_of z done rest pieces at [] acc h e (is
      ∙ ap (λ t. first_plan_line z.first.name z.first.bound ++ t) (sym (append-nil (texts pieces))));
}

pub starts_behind : (acc t front : List ℕ) → StartsWith t front → StartsWith (acc ++ t) (acc ++ front)
starts_behind acc t front h = ap (λ n. take n (acc ++ t)) (length-append acc front) ∙ take-append-add acc t (length front)
    ∙ ap (λ u. acc ++ u) h

front_now : (z : Scene) (done rest : List Numbered) (pieces : List Piece) (at : Standing) (acc t front : List ℕ) → SoFar z done pieces at
    → lines_in z.c z.trace_name ≡ done ++ rest → IsWritten z pieces (acc ++ t) → StartsWith t front → Fronts z (acc ++ front)
front_now z done rest pieces at acc t front h e is starts = record {
  count = length done;
  last = [];
  whole = acc ++ t;
  account = account_of z done rest pieces at [] (acc ++ t) h e (is
      ∙ ap (λ t. first_plan_line z.first.name z.first.bound ++ t) (sym (append-nil (texts pieces))));
  so = (starts_behind acc t front starts, inl refl);
}

behind_last : (z : Scene) (pieces : List Piece) (acc t last : List ℕ) → IsWritten z pieces (acc ++ t)
    → acc ++ (t ++ last) ≡ first_plan_line z.first.name z.first.bound ++ (texts pieces ++ last)
behind_last z pieces acc t last is = sym (append_assoc acc t last) ∙ ap (λ u. u ++ last) is
    ∙ append_assoc (first_plan_line z.first.name z.first.bound) (texts pieces) last

front_last : (z : Scene) (done rest : List Numbered) (pieces : List Piece) (at : Standing) (acc t last front : List ℕ) (s : Status)
    → SoFar z done pieces at → lines_in z.c z.trace_name ≡ done ++ rest → IsWritten z pieces (acc ++ t)
    → IsLastLine z.c z.first.plan.limits z.trace_name (take (length done) (lines_in z.c z.trace_name)) last s → StartsWith (t ++ last) front
    → Fronts z (acc ++ front)
front_last z done rest pieces at acc t last front s h e is ends starts = record {
  count = length done;
  last = last;
  whole = acc ++ (t ++ last);
  account = account_of z done rest pieces at last (acc ++ (t ++ last)) h e (behind_last z pieces acc t last is);
  so = (starts_behind acc (t ++ last) front starts, inr (s, ends));
}

among : (z : Scene) (done ls rest : List Numbered) (l : Numbered) → lines_in z.c z.trace_name ≡ done ++ (ls ++ rest) → Contains ls l
    → Contains (lines_in z.c z.trace_name) l
among z done ls rest l e has = subst (λ k. Contains k l) (sym e)
    (Contains-append_right done (ls ++ rest) l (Contains-append_left ls rest l has))

may_stop : (z : Scene) (done ls rest : List Numbered) (pieces : List Piece) (at : Standing) (acc : List ℕ) → SoFar z done pieces at
    → lines_in z.c z.trace_name ≡ done ++ (ls ++ rest) → IsWritten z pieces acc
    → MayStop (Ends z) (Reads z) (Fronts z) z.c z.first.plan.limits ls acc
may_stop z done ls rest pieces at acc h e is =
    let long_line : List ℕ = too_long_line z.first.plan.limits in
    let here : IsWritten z pieces (acc ++ []) = append-nil acc ∙ is in (
      reads_now z done (ls ++ rest) pieces at acc h e is,
      (λ front starts. front_last z done (ls ++ rest) pieces at acc [] long_line front TooLong h e here refl starts),
      (λ number name has long. (
        record {
          count = length done;
          last = long_line;
          whole = acc ++ long_line;
          account = account_of z done (ls ++ rest) pieces at long_line
              (acc ++ long_line) h e (behind_last z pieces acc [] long_line here);
          so = (refl, refl);
        },
        (number, name, among z done ls rest (record { number = number; line = Plan name }) e has, long),
      )),
    )

-- ---- the closing line

closing_so : (z : Scene) (fault : Option LineFault) → fault_in z.c z.trace_name ≡ fault
    → IsLastLine z.c z.first.plan.limits z.trace_name (take (length (lines_in z.c z.trace_name)) (lines_in z.c z.trace_name))
    (closing_of (length (lines_in z.c z.trace_name)) fault).1 (closing_of (length (lines_in z.c z.trace_name)) fault).0
closing_so z None e = (
  take_all (length (lines_in z.c z.trace_name)) (lines_in z.c z.trace_name) (omega arith),
  ap
      (λ l. end_line (length l)) (sym (take_all (length (lines_in z.c z.trace_name)) (lines_in z.c z.trace_name) (omega arith))),
)
closing_so z (Some f) e = (
  take_all (length (lines_in z.c z.trace_name)) (lines_in z.c z.trace_name) (omega arith),
  subst
      (λ o. IsSomeAnd o (λ g. Rattle.sccp_work.specs.LineFault.bad_line f ≡ Rattle.sccp_work.specs.LineFault.bad_line g)) (sym e) refl,
)

closing_told : (z : Scene) (fault : Option LineFault) (whole : List ℕ) → fault_in z.c z.trace_name ≡ fault
    → LaterPlansFit z.c z.first.plan.limits (lines_in z.c z.trace_name)
    → Account z.c (file_of z) z.workers (take (length (lines_in z.c z.trace_name)) (lines_in z.c z.trace_name))
    (closing_of (length (lines_in z.c z.trace_name)) fault).1 whole
    → Ends z (closing_of (length (lines_in z.c z.trace_name)) fault).0 whole
closing_told z None whole e fit account = (
  record {
    count = length (lines_in z.c z.trace_name);
    last = end_line
        (length (lines_in z.c z.trace_name));
    whole = whole;
    account = account;
    so = (refl, closing_so z None e);
  },
  (e, fit),
)
closing_told z (Some f) whole e fit account = (
  record {
    count = length (lines_in z.c z.trace_name);
    last = Rattle.sccp_work.specs.LineFault.bad_line f;
    whole = whole;
    account = account;
    so = (refl, closing_so z (Some f) e);
  },
  (ap is_some e, fit),
)

-- ---- all lines

one_text : (p : Piece) → texts (p ∷ []) ≡ p.text
unfolding texts
one_text p = append-nil p.text

texts_more : (pieces more : List Piece) → texts (pieces ++ more) ≡ texts pieces ++ texts more
unfolding texts
texts_more pieces more = flat_map-append (λ p. p.text) pieces more

written_more : (z : Scene) (pieces more : List Piece) (acc : List ℕ) → IsWritten z pieces acc
    → IsWritten z (pieces ++ more) (acc ++ texts more)
written_more z pieces more acc is = ap (λ t. t ++ texts more) is
    ∙ append_assoc (first_plan_line z.first.name z.first.bound) (texts pieces) (texts more)
    ∙ ap (λ t. first_plan_line z.first.name z.first.bound ++ t) (sym (texts_more pieces more))

-- a line that ends a batch prints its piece, and adds no plan
SoFar-alone : (z : Scene) (lines : List Numbered) (pieces : List Piece) (at : Standing) (l : Numbered) (text : List ℕ) (states : List State)
    → SoFar z lines pieces at → ((x : Incoming) → role_of z.first.plan l.line ≡ routed x → ⊥)
    → managers_of states ≡ managers_after z.first.plan (lines ++ l ∷ []) → ((name : List ℕ) → l.line ≡ Plan name → ⊥)
    → SoFar z (lines ++ l ∷ []) (pieces ++ piece_of l text None ∷ []) (record at { states = states })
SoFar-alone z lines pieces at l text states h never managers unnamed =
    SoFar-more z lines (l ∷ []) pieces (piece_of l text None ∷ []) at (record at { states = states }) h h.first h.workers refl
    (λ b p a e. subst (λ q. TellsPlan z.c z.first.plan (length (plans_after z.first (pieces ++ b))) q.line q.text q.accepted)
    (single (piece_of l text None) b p a e).1 (λ name f. absurd (unnamed name f)))
    (λ b p a e x role. absurd (never x (subst (λ q. role_of z.first.plan q.line.line ≡ routed x)
    (sym (single (piece_of l text None) b p a e).1) role)))
    managers (sym (append-nil at.later)) tt fits where
      fits : LaterPlansFit z.c z.first.plan.limits (l ∷ [])
      fits number name has = absurd (unnamed name (ap (λ k. k.line) (one_of l (record { number = number; line = Plan name }) has)))

not_routed : {r : Role} {d : Option Due} {x : Incoming} → r ≡ alone d → r ≡ routed x → ⊥
not_routed e f = cc

not_later : (first : Network) (line : Line) {d : Option Due} {name : List ℕ} → role_of first line ≡ alone d → line ≡ Plan name → ⊥
not_later first line {d} {name} e f = apart (sym (ap (role_of first) f) ∙ e) where
  apart : later name ≡ alone d → ⊥
  apart g = cc

-- what holds of the lines after a batch that has begun
abbrev Follows : Scene → Status × List ℕ → List Numbered → Type 0
Follows z closing lines =
    (batch done : List Numbered) (pieces : List Piece) (at : Standing) (acc : List ℕ) → SoFar z done pieces at → IsWritten z pieces acc
    → lines_in z.c z.trace_name ≡ done ++ (batch ++ lines)
    → AllByRecursion (HasOctets z.first.plan) (batch ++ lines) → AllByRecursion (Joins z.first.plan) batch
    → IsOpen z.first.plan done batch
    → Through (Ends z) (Reads z) (Fronts z) (Some z.c) (lines_work closing at batch lines) acc

gathered_through : (goes : Goes) (z : Scene) (closing : Status × List ℕ) (l : Numbered) (lines : List Numbered) → Follows z closing lines
    → (batch done : List Numbered) (pieces : List Piece) (at : Standing) (acc : List ℕ) → SoFar z done pieces at → IsWritten z pieces acc
    → lines_in z.c z.trace_name ≡ done ++ (batch ++ l ∷ lines)
    → AllByRecursion (HasOctets z.first.plan) (batch ++ l ∷ lines) → AllByRecursion (Joins z.first.plan) batch
    → IsOpen z.first.plan done batch → Joins z.first.plan l
    → Through (Ends z) (Reads z) (Fronts z) (Some z.c) (gathered at (batch ++ l ∷ [])
    (λ at' batch'. lines_work closing at' batch' lines)) acc
gathered_through goes z closing l lines follows batch done pieces at acc h is e oct joins begun own = by (is_full (batch ++ l ∷ [])) refl
  where
    whole : (batch ++ l ∷ []) ++ lines ≡ batch ++ l ∷ lines
    whole = append_assoc batch (l ∷ []) lines

    e' : lines_in z.c z.trace_name ≡ done ++ ((batch ++ l ∷ []) ++ lines)
    e' = e ∙ ap (λ k. done ++ k) (sym whole)

    oct' : AllByRecursion (HasOctets z.first.plan) ((batch ++ l ∷ []) ++ lines)
    oct' = subst (AllByRecursion (HasOctets z.first.plan)) (sym whole) oct

    joins' : AllByRecursion (Joins z.first.plan) (batch ++ l ∷ [])
    joins' = all_push (Joins z.first.plan) batch l joins own

    e'' : lines_in z.c z.trace_name ≡ (done ++ (batch ++ l ∷ [])) ++ lines
    e'' = e' ∙ sym (append_assoc done (batch ++ l ∷ []) lines)

    by : (b : Bool) → is_full (batch ++ l ∷ []) ≡ b → Through (Ends z) (Reads z) (Fronts z) (Some z.c)
        (cond b (batch_printed at (batch ++ l ∷ []) (λ at'. lines_work closing at' [] lines))
        (lines_work closing at (batch ++ l ∷ []) lines)) acc
    by true full = (
      reads_now z done ((batch ++ l ∷ []) ++ lines) pieces at acc h e' is,
      batch_through (Ends z) (Reads z) (Fronts z) goes z done (batch ++ l ∷ []) pieces at acc
          (λ at' text. Rattle.sccp_work.specs.Work.print text (lines_work closing at' [] lines))
          (may_stop z done (batch ++ l ∷ []) lines pieces at acc h e' is) h
          (all_front (HasOctets z.first.plan) (batch ++ l ∷ []) lines oct') joins' (run_more z.first.plan done batch l begun)
          (λ at' more h'. (
            (λ front starts. front_now z (done ++ (batch ++ l ∷ [])) lines (pieces ++ more) at' acc (texts more) front h' e''
                (written_more z pieces more acc is) starts),
            follows [] (done ++ (batch ++ l ∷ [])) (pieces ++ more) at' (acc ++ texts more) h' (written_more z pieces more acc is) e''
                (all_back (HasOctets z.first.plan) (batch ++ l ∷ []) lines oct') tt
                (open_none z.first.plan (done ++ (batch ++ l ∷ [])) (full_ends z.first.plan done batch l begun own full)),
          )),
    )
    by false few = follows (batch ++ l ∷ []) done pieces at acc h is e' oct' joins' (open_more z.first.plan done batch l begun own few)

alone_through : (goes : Goes) (z : Scene) (closing : Status × List ℕ) (l : Numbered) (d : Option Due) (lines : List Numbered)
    → Follows z closing lines
    → (batch done : List Numbered) (pieces : List Piece) (at : Standing) (acc : List ℕ) → SoFar z done pieces at → IsWritten z pieces acc
    → lines_in z.c z.trace_name ≡ done ++ (batch ++ l ∷ lines)
    → AllByRecursion (HasOctets z.first.plan) (batch ++ l ∷ lines) → AllByRecursion (Joins z.first.plan) batch
    → IsOpen z.first.plan done batch → role_of z.first.plan l.line ≡ alone d
    → Through (Ends z) (Reads z) (Fronts z) (Some z.c) (read_on
    (batch_work at batch (alone_work l d (λ at'. lines_work closing at' [] lines)))) acc
alone_through goes z closing l d lines follows batch done pieces at acc h is e oct joins begun role = (
  reads_now z done (batch ++ l ∷ lines) pieces at acc h e is,
  batch_through (Ends z) (Reads z) (Fronts z) goes z done batch pieces at acc (alone_work l d (λ at'. lines_work closing at' [] lines))
      (may_stop z done batch (l ∷ lines) pieces at acc h e is) h (all_front (HasOctets z.first.plan) batch (l ∷ lines) oct) joins
      (run_of z.first.plan done batch begun)
      (λ at' more h'. told at' more h'),
) where
  text_of : Standing → List ℕ
  text_of at' = event_text at'.first l (done_alone at' d).outcomes

  e' : lines_in z.c z.trace_name ≡ ((done ++ batch) ++ l ∷ []) ++ lines
  e' = e ∙ sym (append_assoc done batch (l ∷ lines)) ∙ sym (append_assoc (done ++ batch) (l ∷ []) lines)

  told : (at' : Standing) (more : List Piece) → SoFar z (done ++ batch) (pieces ++ more) at'
      → Through (Ends z) (Reads z) (Fronts z) (Some z.c) (alone_work l d (λ at'. lines_work closing at' [] lines) at' (texts more)) acc
  told at' more h' =
      let last = piece_of l (text_of at') None ∷ [] in
      let h'' : SoFar z ((done ++ batch) ++ l ∷ []) ((pieces ++ more) ++ last) (record at' { states = (done_alone at' d).states }) =
      SoFar-alone z (done ++ batch) (pieces ++ more) at' l (text_of at') (done_alone at' d).states h' (λ x f. not_routed role f)
      (alone_changes at' d ∙ ap (λ ms. after_role ms (alone d)) h'.managers
      ∙ ap (after_role (managers_after z.first.plan (done ++ batch))) (sym role) ∙ sym (managers_alone z.first.plan (done ++ batch) l))
      (λ name f. not_later z.first.plan l.line role f) in
      let one : texts last ≡ text_of at' = one_text (piece_of l (text_of at') None) in
      let is' : IsWritten z ((pieces ++ more) ++ last) (acc ++ (texts more ++ text_of at')) =
      sym (append_assoc acc (texts more) (text_of at')) ∙ ap (λ u. (acc ++ texts more) ++ u) (sym one)
      ∙ written_more z (pieces ++ more) last (acc ++ texts more) (written_more z pieces more acc is) in (
        (λ front starts. front_now z ((done ++ batch) ++ l ∷ []) lines ((pieces ++ more) ++ last)
            (record at' { states = (done_alone at' d).states }) acc (texts more ++ text_of at') front h'' e' is' starts),
        follows [] ((done ++ batch) ++ l ∷ []) ((pieces ++ more) ++ last) (record at' { states = (done_alone at' d).states })
            (acc ++ (texts more ++ text_of at')) h'' is' e'
            (all_back (HasOctets z.first.plan) (l ∷ []) lines (all_back (HasOctets z.first.plan) batch (l ∷ lines) oct)) tt
            (open_none z.first.plan ((done ++ batch) ++ l ∷ []) (alone_ends z.first.plan (done ++ batch) l d role)),
      )

not_later_alone : {r : Role} {d : Option Due} {name : List ℕ} → r ≡ later name → r ≡ alone d → ⊥
not_later_alone e f = cc

not_aside_alone : {r : Role} {d : Option Due} → r ≡ aside → r ≡ alone d → ⊥
not_aside_alone e f = cc

line_follows : (goes : Goes) (z : Scene) (closing : Status × List ℕ) (l : Numbered) (lines : List Numbered) → Follows z closing lines
    → Follows z closing (l ∷ lines)
unfolding lines_work
line_follows goes z closing l lines follows batch done pieces at acc h is e oct joins begun = by (role_of at.first l.line) refl where
  by : (r : Role) → role_of at.first l.line ≡ r → Through (Ends z) (Reads z) (Fronts z) (Some z.c)
      (line_work at batch l r (λ at' batch'. lines_work closing at' batch' lines)) acc
  by (routed x) role = gathered_through goes z closing l lines follows batch done pieces at acc h is e oct joins begun
      (λ d f. not_routed f (subst (λ n. role_of n l.line ≡ routed x) h.first role))
  by (later name) role = gathered_through goes z closing l lines follows batch done pieces at acc h is e oct joins begun
      (λ d f. not_later_alone (subst (λ n. role_of n l.line ≡ later name) h.first role) f)
  by aside role = gathered_through goes z closing l lines follows batch done pieces at acc h is e oct joins begun
      (λ d f. not_aside_alone (subst (λ n. role_of n l.line ≡ aside) h.first role) f)
  by (alone d) role = alone_through goes z closing l d lines follows batch done pieces at acc h is e oct joins begun
      (subst (λ n. role_of n l.line ≡ alone d) h.first role)

-- the last batch, and the closing line
last_follows : (goes : Goes) (z : Scene) (fault : Option LineFault) → fault_in z.c z.trace_name ≡ fault
    → Follows z (closing_of (length (lines_in z.c z.trace_name)) fault) []
unfolding lines_work
last_follows goes z fault f batch done pieces at acc h is e oct joins begun = (
  reads_now z done (batch ++ []) pieces at acc h e is,
  batch_through (Ends z) (Reads z) (Fronts z) goes z done batch pieces at acc (λ at' text. answered (closing.0, text ++ closing.1))
      (may_stop z done batch [] pieces at acc h e is) h (all_front (HasOctets z.first.plan) batch [] oct) joins
      (run_of z.first.plan done batch begun) told,
) where
  closing : Status × List ℕ
  closing = closing_of (length (lines_in z.c z.trace_name)) fault

  all : lines_in z.c z.trace_name ≡ (done ++ batch) ++ []
  all = e ∙ sym (append_assoc done batch [])

  append-nil' : done ++ batch ≡ (done ++ batch) ++ []
  append-nil' = sym (append-nil (done ++ batch))

  count : length (done ++ batch) ≡ length (lines_in z.c z.trace_name)
  count = ap length (sym (append-nil (done ++ batch)) ∙ sym all)

  told : (at' : Standing) (more : List Piece) → SoFar z (done ++ batch) (pieces ++ more) at'
      → Through (Ends z) (Reads z) (Fronts z) (Some z.c) (answered (closing.0, texts more ++ closing.1)) acc
  told at' more h' =
      let is' : IsWritten z (pieces ++ more) (acc ++ texts more) = written_more z pieces more acc is in (
        (λ front starts. front_last z (done ++ batch) [] (pieces ++ more) at' acc (texts more) closing.1 front closing.0 h' all is'
            (subst (λ n. IsLastLine z.c z.first.plan.limits z.trace_name (take n (lines_in z.c z.trace_name)) closing.1 closing.0)
            (sym count)
            (closing_so z fault f)) starts),
        closing_told z fault (acc ++ (texts more ++ closing.1)) f (subst (LaterPlansFit z.c z.first.plan.limits) (append-nil'
            ∙ sym all) h'.fit)
            (subst (λ n. Account z.c (file_of z) z.workers (take n (lines_in z.c z.trace_name)) closing.1
            (acc ++ (texts more ++ closing.1))) count
            (account_of z (done ++ batch) [] (pieces ++ more) at' closing.1 (acc ++ (texts more ++ closing.1)) h' all
            (behind_last z (pieces ++ more) acc (texts more) closing.1 is'))),
      )

pub lines_through : (goes : Goes) (z : Scene) (fault : Option LineFault) → fault_in z.c z.trace_name ≡ fault → (lines : List Numbered)
    → Follows z (closing_of (length (lines_in z.c z.trace_name)) fault) lines
lines_through goes z fault f [] = last_follows goes z fault f
lines_through goes z fault f (l ∷ lines) = line_follows goes z (closing_of (length (lines_in z.c z.trace_name)) fault) l lines
    (lines_through goes z fault f lines)

-- ---- before the trace is read

abbrev at_start : Scene → Standing
at_start z = start z.workers z.first.plan

pub SoFar-start : (z : Scene) → SoFar z [] [] (at_start z)
SoFar-start z = record {
  first = refl;
  workers = refl;
  of_lines = refl;
  plans = λ before p after e. absurd (no_parts before p after e);
  messages = λ before p after e. absurd (no_parts before p after e);
  managers = refl;
  later = refl;
  sound = tt;
  fit = λ number name has. absurd (omega (arith, has.1));
}

pub first_written : (z : Scene) → IsWritten z [] (first_plan_line z.first.name z.first.bound)
unfolding texts
first_written z = sym (append-nil (first_plan_line z.first.name z.first.bound))

pub account_first : (z : Scene) → Account z.c (file_of z) z.workers (take 0 (lines_in z.c z.trace_name)) []
    (first_plan_line z.first.name z.first.bound)
unfolding reads_now
account_first z = (reads_now z [] (lines_in z.c z.trace_name) [] (at_start z) (first_plan_line z.first.name z.first.bound)
    (SoFar-start z) refl (first_written z)).account

pub front_first : (z : Scene) (front : List ℕ) → StartsWith (first_plan_line z.first.name z.first.bound) front → Fronts z front
front_first z front starts = front_now z [] (lines_in z.c z.trace_name) [] (at_start z) []
    (first_plan_line z.first.name z.first.bound) front (SoFar-start z) refl (first_written z) starts
