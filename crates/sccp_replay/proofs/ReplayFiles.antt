-- A replay reads no other files than those that the words and the trace name.
use Rattle.std.proofs.Common.{◌≡◌, ℕ, List, [], ◌∷◌, ◌++◌, length, Bool, true, false, cond, ltb, Result, Ok, Err, refl, sym, ap, subst}
use Rattle.std.proofs.Common.{append_assoc, arith}
use Rattle.std.specs.Option.{option_map_or}
use Rattle.std.proofs.lemmas.List.Elements.{Contains-append_left, Contains-append_right}
use Rattle.plan_model.specs.Network.{Network}
use Rattle.plan_model.specs.SameNodes.{same_nodes}
use Rattle.plan_model.specs.declared.plan_fault.PlanFault.{PlanFault}
use Rattle.plan_text.specs.PlanText.{plan_within}
use Rattle.plan_verify.specs.declared.verdict.Verdict.{Verdict}
use Rattle.plan_verify.specs.declared.verdict.Verdict.TheVariants as verdicts
use Rattle.sccp_io.specs.Files.{Contents}
use Rattle.sccp_report.specs.Limits.{too_long_line}
use Rattle.sccp_report.specs.Roles.{Role, routed, later, aside, alone, role_of}
use Rattle.trace_text.specs.declared.line.Line.TheVariants.{Plan}
use Rattle.trace_text.specs.declared.line.Numbered.{Numbered}
use Rattle.sccp_replay.specs.LaterPlans.{other_nodes_line}
use Rattle.sccp_work.specs.Limit.{IsThere}
use Rattle.sccp_work.specs.Plans.{planned}
use Rattle.sccp_replay.specs.Replay.{Standing, Settled, judged_later, later_work, settle_line, settle, batch_of, told_at, batch_work}
use Rattle.sccp_replay.specs.Replay.{is_full, alone_work, batch_printed, gathered, line_work, lines_work, closing_of, start, replayed}
use Rattle.sccp_replay.specs.Replay.{replay_work}
use Rattle.sccp_replay.specs.ReplayEnds.{LaterPlansThere}
use Rattle.sccp_work.specs.PlanFile.{PlanFile}
use Rattle.sccp_replay.specs.Trace.{trace_of, lines_in}
use Rattle.sccp_work.specs.Work.{Work, print, judge, serve, answered, HasFiles}
use Rattle.sccp_work.specs.declared.status.Status.{Status}
use Rattle.sccp_work.specs.declared.status.Status.TheVariants.{TooLong}
use Rattle.sccp_replay.proofs.Settling.{of_later}

there_at : (c : Contents) (l : Numbered) (lines : List Numbered) → LaterPlansThere c (l ∷ lines) → (name : List ℕ) → l.line ≡ Plan name
    → IsThere c name
there_at c l lines h name e = h l.number name (0, omega arith, λ i. record { number = l.number; line = e i })

there_behind : (c : Contents) (l : Numbered) (lines : List Numbered) → LaterPlansThere c (l ∷ lines) → LaterPlansThere c lines
there_behind c l lines h number name has = h number name (Contains-append_right (l ∷ []) lines _ has)

later_files : (c : Contents) (at : Standing) (line : ℕ) (name : List ℕ) (r : Result Network PlanFault) (next : Standing → Settled → Work)
    → ((at' : Standing) (s : Settled) → HasFiles c (next at' s)) → HasFiles c (later_work at line name r next)
later_files c at line name (Err fault) next go = go at _
later_files c at line name (Ok plan) next go = by (same_nodes at.first plan) where
  judged : (v : Verdict) → HasFiles c (judged_later at line name plan v next)
  judged (verdicts.Accepted a) = go _ _
  judged (verdicts.Refused same w) = go _ _
  judged (verdicts.TooWide same) = go _ _

  by : (b : Bool) → HasFiles c (cond b (judge plan (λ v. judged_later at line name plan v next))
      (next at (Rattle.sccp_replay.specs.Replay.prints (other_nodes_line line name))))
  by true = λ v j. judged v
  by false = go at _

line_files : (c : Contents) (at : Standing) (l : Numbered) (next : Standing → Settled → Work)
    → ((name : List ℕ) → l.line ≡ Plan name → IsThere c name) → ((at' : Standing) (s : Settled) → HasFiles c (next at' s))
    → HasFiles c (settle_line at l (role_of at.first l.line) next)
line_files c at l next here go = by (role_of at.first l.line) refl where
  within : (b : Bool) (name octets : List ℕ)
      → HasFiles c (cond b (answered (TooLong, too_long_line at.first.limits))
      (later_work at l.number name (plan_within at.first.limits octets) next))
  within true name octets = tt
  within false name octets = later_files c at l.number name (plan_within at.first.limits octets) next go

  by : (r : Role) → role_of at.first l.line ≡ r → HasFiles c (settle_line at l r next)
  by (later name) e = let f = here name (of_later at.first l.line name e) in
      (f.0, f.1, within (ltb at.first.limits.octets (length f.0)) name f.0)
  by (routed x) e = go at _
  by aside e = go at _
  by (alone d) e = go at _

settle_files : (c : Contents) (next : Standing → List Settled → Work) → ((at' : Standing) (ss : List Settled) → HasFiles c (next at' ss))
    → (lines : List Numbered) (at : Standing) (ss : List Settled) → LaterPlansThere c lines
    → HasFiles c (settle at ss lines next)
unfolding settle
settle_files c next go [] at ss h = go at ss
settle_files c next go (l ∷ lines) at ss h =
    line_files c at l (λ at' s. settle at' (ss ++ s ∷ []) lines next) (there_at c l lines h)
    (λ at' s. settle_files c next go lines at' (ss ++ s ∷ []) (there_behind c l lines h))

batch_files : (c : Contents) (at : Standing) (lines : List Numbered) (next : Standing → List ℕ → Work) → LaterPlansThere c lines
    → ((at' : Standing) (text : List ℕ) → HasFiles c (next at' text)) → HasFiles c (batch_work at lines next)
unfolding batch_work
batch_files c at lines next h go =
    settle_files c (λ at' settled. serve (batch_of at at' settled)
    (λ numbers. next (record at' { states = (told_at at' settled numbers).states }) (told_at at' settled numbers).text))
    (λ at' ss ns are. go _ _) lines at [] h

front : (c : Contents) (xs ys : List Numbered) → LaterPlansThere c (xs ++ ys) → LaterPlansThere c xs
front c xs ys h number name has = h number name (Contains-append_left xs ys _ has)

abbrev Follows : Contents → Status × List ℕ → List Numbered → Type 0
Follows c closing lines = (batch : List Numbered) (at : Standing) → LaterPlansThere c (batch ++ lines)
    → HasFiles c (lines_work closing at batch lines)

gathered_files : (c : Contents) (closing : Status × List ℕ) (l : Numbered) (lines : List Numbered) → Follows c closing lines
    → (batch : List Numbered) (at : Standing) → LaterPlansThere c (batch ++ l ∷ lines)
    → HasFiles c (gathered at (batch ++ l ∷ []) (λ at' batch'. lines_work closing at' batch' lines))
gathered_files c closing l lines follows batch at h = by (is_full (batch ++ l ∷ [])) where
  h' : LaterPlansThere c ((batch ++ l ∷ []) ++ lines)
  h' = subst (LaterPlansThere c) (sym (append_assoc batch (l ∷ []) lines)) h

  behind : LaterPlansThere c lines
  behind number name has = h' number name (Contains-append_right (batch ++ l ∷ []) lines _ has)

  by : (b : Bool) → HasFiles c (cond b (batch_printed at (batch ++ l ∷ []) (λ at'. lines_work closing at' [] lines))
      (lines_work closing at (batch ++ l ∷ []) lines))
  by true = batch_files c at (batch ++ l ∷ []) (λ at' text. print text (lines_work closing at' [] lines))
      (front c (batch ++ l ∷ []) lines h') (λ at' text. follows [] at' behind)
  by false = follows (batch ++ l ∷ []) at h'

role_files : (c : Contents) (closing : Status × List ℕ) (l : Numbered) (lines : List Numbered) → Follows c closing lines
    → (batch : List Numbered) (at : Standing) → LaterPlansThere c (batch ++ l ∷ lines) → (r : Role)
    → HasFiles c (line_work at batch l r (λ at' batch'. lines_work closing at' batch' lines))
role_files c closing l lines follows batch at h (alone d) =
    batch_files c at batch (alone_work l d (λ at'. lines_work closing at' [] lines)) (front c batch (l ∷ lines) h)
    (λ at' text. follows [] _ (λ number name has. h number name
    (Contains-append_right batch (l ∷ lines) _ (Contains-append_right (l ∷ []) lines _ has))))
role_files c closing l lines follows batch at h (routed x) = gathered_files c closing l lines follows batch at h
role_files c closing l lines follows batch at h (later name) = gathered_files c closing l lines follows batch at h
role_files c closing l lines follows batch at h aside = gathered_files c closing l lines follows batch at h

lines_files : (c : Contents) (closing : Status × List ℕ) (lines : List Numbered) → Follows c closing lines
unfolding lines_work
lines_files c closing [] batch at h = batch_files c at batch (λ at' text. answered (closing.0, text ++ closing.1)) (front c batch [] h)
    (λ at' text. tt)
lines_files c closing (l ∷ lines) batch at h = role_files c closing l lines (lines_files c closing lines) batch at h
    (role_of at.first l.line)

-- the files of the words and of the trace's lines are enough
pub replay_files : (c : Contents) (plan : PlanFile) (trace : List ℕ) (workers : ℕ) → IsThere c plan.name → IsThere c trace
    → LaterPlansThere c (lines_in c trace) → HasFiles c (replay_work plan trace workers)
unfolding replay_work
replay_files c plan trace workers p t h = (p.0, p.1, by (ltb plan.limits.octets (length p.0)) (plan_within plan.limits p.0)) where
  lines : lines_in c trace ≡ (trace_of t.0).lines
  lines = ap (λ o. option_map_or (λ octets. (trace_of octets).lines) o []) t.1

  on : (first : Network) (v : Verdict) → HasFiles c (replayed plan.name trace workers first v)
  on first (verdicts.Accepted a) = (
    t.0,
    t.1,
    lines_files c (closing_of (length (trace_of t.0).lines) (trace_of t.0).fault) (trace_of t.0).lines [] (start workers first)
        (subst (LaterPlansThere c) lines h),
  )
  on first (verdicts.Refused same w) = tt
  on first (verdicts.TooWide same) = tt

  read : (r : Result Network PlanFault) → HasFiles c (planned plan.limits r (λ first. judge first (replayed plan.name trace workers first)))
  read (Ok first) = λ v j. on first v
  read (Err fault) = tt

  by : (b : Bool) (r : Result Network PlanFault)
      → HasFiles c (cond b (answered (TooLong, too_long_line plan.limits))
      (planned plan.limits r (λ first. judge first (replayed plan.name trace workers first))))
  by true r = tt
  by false r = read r
