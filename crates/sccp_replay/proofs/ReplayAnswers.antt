-- The answers of a replay.
use Rattle.std.proofs.Common.{◌≢◌, ℕ, List, [], ◌∷◌, ◌++◌, length, Bool, true, false, cond, ltb, Option, None, Some, Result, Ok, Err}
use Rattle.plan_model.specs.Network.{Network}
use Rattle.plan_model.specs.SameNodes.{same_nodes}
use Rattle.plan_model.specs.declared.plan_fault.PlanFault.{PlanFault}
use Rattle.plan_text.specs.PlanText.{plan_within}
use Rattle.plan_verify.specs.declared.verdict.Verdict.{Verdict}
use Rattle.plan_verify.specs.declared.verdict.Verdict.TheVariants as verdicts
use Rattle.sccp_report.specs.Limits.{too_long_line}
use Rattle.sccp_report.specs.Roles.{Role, routed, later, aside, alone, role_of}
use Rattle.trace_text.specs.declared.line.Numbered.{Numbered}
use Rattle.trace_text.specs.declared.line_fault.LineFault.{LineFault}
use Rattle.sccp_replay.specs.LaterPlans.{other_nodes_line}
use Rattle.sccp_work.specs.Plans.{planned}
use Rattle.sccp_replay.specs.Replay.{Standing, Settled, prints, judged_later, later_work, settle_line, settle, batch_of, told_at}
use Rattle.sccp_replay.specs.Replay.{batch_work, is_full, alone_work, batch_printed, gathered, line_work, lines_work, closing_of, start}
use Rattle.sccp_replay.specs.Replay.{replayed, replay_work}
use Rattle.sccp_work.specs.PlanFile.{PlanFile}
use Rattle.sccp_replay.specs.Trace.{trace_of}
use Rattle.sccp_work.specs.Work.{Work, print, judge, serve, answered}
use Rattle.sccp_work.specs.declared.status.Status.{Status}
use Rattle.sccp_work.specs.declared.status.Status.TheVariants.{Usage, TooLong}
use Rattle.sccp_work.proofs.Finishing.{Finishes}

abbrev Other : Status → Type 0
Other s = s ≢ Usage

later_other : (at : Standing) (line : ℕ) (name : List ℕ) (r : Result Network PlanFault) (next : Standing → Settled → Work)
    → ((at' : Standing) (s : Settled) → Finishes Other (next at' s)) → Finishes Other (later_work at line name r next)
later_other at line name (Err fault) next go = go at _
later_other at line name (Ok plan) next go = by (same_nodes at.first plan) where
  judged : (v : Verdict) → Finishes Other (judged_later at line name plan v next)
  judged (verdicts.Accepted a) = go _ _
  judged (verdicts.Refused same w) = go _ _
  judged (verdicts.TooWide same) = go _ _

  by : (b : Bool) → Finishes Other (cond b (judge plan (λ v. judged_later at line name plan v next))
      (next at (prints (other_nodes_line line name))))
  by true = λ v. judged v
  by false = go at _

line_other : (at : Standing) (l : Numbered) (r : Role) (next : Standing → Settled → Work)
    → ((at' : Standing) (s : Settled) → Finishes Other (next at' s)) → Finishes Other (settle_line at l r next)
line_other at l (later name) next go = λ octets. within (ltb at.first.limits.octets (length octets)) octets where
  within : (b : Bool) (octets : List ℕ)
      → Finishes Other (cond b (answered (TooLong, too_long_line at.first.limits))
      (later_work at l.number name (plan_within at.first.limits octets) next))
  within true octets = λ e. cc
  within false octets = later_other at l.number name (plan_within at.first.limits octets) next go
line_other at l (routed x) next go = go at _
line_other at l aside next go = go at _
line_other at l (alone d) next go = go at _

settle_other : (next : Standing → List Settled → Work) → ((at' : Standing) (ss : List Settled) → Finishes Other (next at' ss))
    → (lines : List Numbered) (at : Standing) (ss : List Settled) → Finishes Other (settle at ss lines next)
unfolding settle
settle_other next go [] at ss = go at ss
settle_other next go (l ∷ lines) at ss =
    line_other at l (role_of at.first l.line) (λ at' s. settle at' (ss ++ s ∷ []) lines next)
    (λ at' s. settle_other next go lines at' (ss ++ s ∷ []))

batch_other : (at : Standing) (lines : List Numbered) (next : Standing → List ℕ → Work)
    → ((at' : Standing) (text : List ℕ) → Finishes Other (next at' text)) → Finishes Other (batch_work at lines next)
unfolding batch_work
batch_other at lines next go =
    settle_other (λ at' settled. serve (batch_of at at' settled)
    (λ numbers. next (record at' { states = (told_at at' settled numbers).states }) (told_at at' settled numbers).text))
    (λ at' ss ns. go _ _) lines at []

abbrev Follows : Status × List ℕ → List Numbered → Type 0
Follows closing lines = (batch : List Numbered) (at : Standing) → Finishes Other (lines_work closing at batch lines)

gathered_other : (closing : Status × List ℕ) (lines : List Numbered) → Follows closing lines → (batch : List Numbered) (at : Standing)
    → Finishes Other (gathered at batch (λ at' batch'. lines_work closing at' batch' lines))
gathered_other closing lines follows batch at = by (is_full batch) where
  by : (b : Bool) → Finishes Other (cond b (batch_printed at batch (λ at'. lines_work closing at' [] lines))
      (lines_work closing at batch lines))
  by true = batch_other at batch (λ at' text. print text (lines_work closing at' [] lines)) (λ at' text. follows [] at')
  by false = follows batch at

role_other : (closing : Status × List ℕ) (l : Numbered) (lines : List Numbered) → Follows closing lines
    → (batch : List Numbered) (at : Standing) (r : Role)
    → Finishes Other (line_work at batch l r (λ at' batch'. lines_work closing at' batch' lines))
role_other closing l lines follows batch at (alone d) = batch_other at batch (alone_work l d (λ at'. lines_work closing at' [] lines))
    (λ at' text. follows [] _)
role_other closing l lines follows batch at (routed x) = gathered_other closing lines follows (batch ++ l ∷ []) at
role_other closing l lines follows batch at (later name) = gathered_other closing lines follows (batch ++ l ∷ []) at
role_other closing l lines follows batch at aside = gathered_other closing lines follows (batch ++ l ∷ []) at

lines_other : (closing : Status × List ℕ) → Other closing.0 → (lines : List Numbered) → Follows closing lines
unfolding lines_work
lines_other closing own [] batch at = batch_other at batch (λ at' text. answered (closing.0, text ++ closing.1)) (λ at' text. own)
lines_other closing own (l ∷ lines) batch at = role_other closing l lines (lines_other closing own lines) batch at (role_of at.first l.line)

closing_other : (count : ℕ) (fault : Option LineFault) → Other (closing_of count fault).0
closing_other count None = λ e. cc
closing_other count (Some fault) = λ e. cc

-- a replay never ends with the usage line
pub replay_other : (plan : PlanFile) (trace : List ℕ) (workers : ℕ) → Finishes Other (replay_work plan trace workers)
unfolding replay_work
replay_other plan trace workers = λ octets. by (ltb plan.limits.octets (length octets)) (plan_within plan.limits octets) where
  on : (first : Network) (v : Verdict) → Finishes Other (replayed plan.name trace workers first v)
  on first (verdicts.Accepted a) = λ text.
      lines_other (closing_of (length (trace_of text).lines) (trace_of text).fault)
      (closing_other (length (trace_of text).lines) (trace_of text).fault) (trace_of text).lines [] (start workers first)
  on first (verdicts.Refused same w) = λ e. cc
  on first (verdicts.TooWide same) = λ e. cc

  read : (r : Result Network PlanFault)
      → Finishes Other (planned plan.limits r (λ first. judge first (replayed plan.name trace workers first)))
  read (Ok first) = λ v. on first v
  read (Err fault) = λ e. cc

  by : (b : Bool) (r : Result Network PlanFault)
      → Finishes Other (cond b (answered (TooLong, too_long_line plan.limits))
      (planned plan.limits r (λ first. judge first (replayed plan.name trace workers first))))
  by true r = λ e. cc
  by false r = read r
