-- The command that replays a trace, batch by batch.
use Rattle.std.specs.Prelude.{ℕ, ◌+◌, ◌-◌, Bool, true, false, nat_le, List, [], ◌∷◌, ◌++◌, length, filter, slice_get, unwrap_or, codes}
use Rattle.std.specs.Prelude.{Option, Some, None, Result, Ok, Err, if◌then◌else◌}
use Rattle.std.specs.List.{filter_map}
use Rattle.sccp_base.specs.declared.mark.Mark.{Mark}
use Rattle.sccp_report.specs.Events.{event_text}
use Rattle.sccp_report.specs.Roles.{Role, routed, later, aside, alone, role_of}
use Rattle.sccp_report.specs.Served.{served_text}
use Rattle.sccp_report.specs.Values.{numbered}
use Rattle.sccp_report.specs.Verdicts.{verdict_text}
use Rattle.plan_check.specs.Verified.{Verified}
use Rattle.plan_model.specs.Network.{Network}
use Rattle.plan_model.specs.SameNodes.{same_nodes}
use Rattle.plan_model.specs.declared.plan_fault.PlanFault.{PlanFault}
use Rattle.plan_text.specs.PlanText.{plan_within}
use Rattle.plan_verify.specs.declared.verdict.Verdict.{Verdict}
use Rattle.plan_verify.specs.declared.verdict.Verdict.TheVariants.{Accepted, Refused, TooWide}
use Rattle.relay_net.specs.Batches.{Incoming, Due, applied_after, applied_if_due}
use Rattle.relay_net.specs.Journeys.{journey}
use Rattle.relay_net.specs.States.{State, Applied, first_states, markings_of}
use Rattle.relay_net.specs.declared.travelled.Journey.{Journey}
use Rattle.trace_text.specs.declared.fed.Fed.{Fed}
use Rattle.trace_text.specs.declared.line.Line.{Line}
use Rattle.trace_text.specs.declared.line.Line.TheVariants.{Msg}
use Rattle.trace_text.specs.declared.line.Numbered.{Numbered}
use Rattle.trace_text.specs.declared.line_fault.LineFault.{LineFault}
use Rattle.sccp_replay.specs.LaterPlans.{first_plan_line, accepted_plan_line, refused_plan_head, bad_plan_line, other_nodes_line}
use Rattle.sccp_work.specs.Accepting.{accepted_on, if_accepted}
use Rattle.sccp_work.specs.Limit.{within_limit}
use Rattle.sccp_work.specs.LineFault.{bad_line}
use Rattle.sccp_work.specs.Numbers.{Batch}
use Rattle.sccp_work.specs.PlanFile.{PlanFile, plan_file}
use Rattle.sccp_work.specs.Plans.{with_plan}
use Rattle.sccp_replay.specs.Trace.{trace_of}
use Rattle.sccp_work.specs.Work.{Work, print, read, read_on, judge, serve, answered}
use Rattle.sccp_work.specs.declared.status.Status.{Status}
use Rattle.sccp_work.specs.declared.status.Status.TheVariants.{Done, BadTrace}

-- the state of a replay: its first plan, the later ones that were accepted so far in their order, and what the nodes keep
pub record Standing : Type 0 where
  pub workers : ℕ
  pub first : Network
  pub later : List Network
  pub states : List State

-- how many plans were accepted so far
abbrev pub accepted : Standing → ℕ
accepted at = length at.later + 1

-- the plan of a number, from 1
abbrev pub plan_at : Standing → ℕ → Network
plan_at at number = unwrap_or (slice_get (at.first ∷ at.later) (number - 1)) at.first

abbrev pub latest : Standing → Network
latest at = plan_at at (accepted at)

-- the file of a later plan, which is read under the limits of the first one
abbrev pub later_file : Standing → List ℕ → PlanFile
later_file at name = plan_file name at.first.limits

-- ---- the plan lines of a batch are settled before it begins

-- A line of a batch that is settled: what is printed of it, or a message that is to be routed, with the number of plans
-- accepted before its line.
pub data Settled : Type 0 where
  prints : List ℕ → Settled
  routes : ℕ → Incoming → ℕ → Settled

-- an accepted plan gets the next number
abbrev pub judged_later : Standing → ℕ → List ℕ → Network → Verdict → (Standing → Settled → Work) → Work
judged_later at line name plan (Accepted a) next =
    next (record at { later = at.later ++ plan ∷ [] }) (prints (accepted_plan_line line (accepted at + 1) name a.bound))
judged_later at line name plan (Refused same witness) next =
    next at (prints (refused_plan_head line name ++ verdict_text plan (Refused same witness)))
judged_later at line name plan (TooWide same) next = next at (prints (refused_plan_head line name ++ verdict_text plan (TooWide same)))

-- a later plan is refused for its text, then for other relays than those of the first one, and then by its verdict
abbrev pub later_work : Standing → ℕ → List ℕ → Result Network PlanFault → (Standing → Settled → Work) → Work
later_work at line name (Err fault) next = next at (prints (bad_plan_line line name at.first.limits fault))
later_work at line name (Ok plan) next =
    if same_nodes at.first plan then judge plan (λ verdict. judged_later at line name plan verdict next)
    else next at (prints (other_nodes_line line name))

abbrev pub settle_line : Standing → Numbered → Role → (Standing → Settled → Work) → Work
settle_line at line (later name) next =
    within_limit (later_file at name) (λ octets. later_work at line.number name (plan_within at.first.limits octets) next)
settle_line at line (routed x) next = next at (routes line.number x (accepted at))
settle_line at line aside next = next at (prints (event_text at.first line []))
settle_line at line (alone d) next = next at (prints (event_text at.first line []))

-- after what was settled before
unfoldable pub settle : Standing → List Settled → List Numbered → (Standing → List Settled → Work) → Work
settle at done [] next = next at done
settle at done (line ∷ lines) next =
    settle_line at line (role_of at.first line.line) (λ at' s. settle at' (done ++ s ∷ []) lines next)

-- ---- a batch

abbrev pub accepted_before : Settled → Option ℕ
accepted_before (prints text) = None
accepted_before (routes line x before) = Some before

abbrev pub batch_of : Standing → Standing → List Settled → Batch
batch_of at at' settled =
    record { workers = at.workers; before = filter_map accepted_before settled; first = accepted at; last = accepted at' }

-- what was printed, and what the nodes keep afterwards
pub record Told : Type 0 where
  pub text : List ℕ
  pub states : List State

abbrev pub after_text : List ℕ → Told → Told
after_text text t = record { text = text ++ t.text; states = t.states }

-- the journey of a message under the plan of its number
abbrev pub journey_by : Standing → List (List Mark) → Incoming → ℕ → Journey
journey_by at markings x number = journey (plan_at at number) markings x.entry x.origin x.octets

-- Each message has its journey under the plan of its number and what the nodes held prohibited before the batch. What its
-- end leaves to be done is done line by line.
unfoldable pub tell : Standing → List (List Mark) → List State → List Settled → List ℕ → Told
tell at markings states [] numbers = record { text = []; states = states }
tell at markings states (prints text ∷ settled) numbers = after_text text (tell at markings states settled numbers)
tell at markings states (routes line x before ∷ settled) [] = record { text = []; states = states }
tell at markings states (routes line x before ∷ settled) (number ∷ numbers) =
    let j = journey_by at markings x number in
    let a = applied_after at.first states x j in
    after_text (served_text at.first line number j a.outcomes) (tell at markings a.states settled numbers)

abbrev pub told_at : Standing → List Settled → List ℕ → Told
told_at at settled numbers = tell at (markings_of at.states) at.states settled numbers

-- the batch's text, and the state of the replay after it
unfoldable pub batch_work : Standing → List Numbered → (Standing → List ℕ → Work) → Work
batch_work at lines next =
    settle at [] lines (λ at' settled. serve (batch_of at at' settled) (λ numbers.
    next (record at' { states = (told_at at' settled numbers).states }) (told_at at' settled numbers).text))

-- ---- the whole trace

abbrev pub is_message : Line → Bool
is_message (Msg node origin octets) = true
is_message line = false

-- a batch has at most 1,024 lines of messages
abbrev pub is_full : List Numbered → Bool
is_full batch = nat_le 1024 (length (filter (λ line. is_message line.line) batch))

-- what a line that ends a batch asks for is done under the latest plan
abbrev pub done_alone : Standing → Option Due → Applied
done_alone at d = applied_if_due (latest at) at.states d

abbrev pub alone_work : Numbered → Option Due → (Standing → Work) → Standing → List ℕ → Work
alone_work line d next at text =
    print (text ++ event_text at.first line (done_alone at d).outcomes) (next (record at { states = (done_alone at d).states }))

abbrev pub batch_printed : Standing → List Numbered → (Standing → Work) → Work
batch_printed at batch next = read_on (batch_work at batch (λ at' text. print text (next at')))

abbrev pub gathered : Standing → List Numbered → (Standing → List Numbered → Work) → Work
gathered at batch next = if is_full batch then batch_printed at batch (λ at'. next at' []) else next at batch

-- one more line: it joins the batch that has begun, or ends it
abbrev pub line_work : Standing → List Numbered → Numbered → Role → (Standing → List Numbered → Work) → Work
line_work at batch line (alone d) next = read_on (batch_work at batch (alone_work line d (λ at'. next at' [])))
line_work at batch line (routed x) next = gathered at (batch ++ line ∷ []) next
line_work at batch line (later name) next = gathered at (batch ++ line ∷ []) next
line_work at batch line aside next = gathered at (batch ++ line ∷ []) next

-- The lines after the batch that has begun. What is left at the end is a last batch, and its text and the closing line are
-- printed.
unfoldable pub lines_work : Status × List ℕ → Standing → List Numbered → List Numbered → Work
lines_work closing at batch [] = read_on (batch_work at batch (λ at' text. answered (closing.0, text ++ closing.1)))
lines_work closing at batch (line ∷ lines) =
    line_work at batch line (role_of at.first line.line) (λ at' batch'. lines_work closing at' batch' lines)

unfoldable pub end_line : ℕ → List ℕ
end_line lines = numbered (codes "end ") lines ++ codes "\n"

-- the number of lines, or the fault of the line after them
abbrev pub closing_of : ℕ → Option LineFault → Status × List ℕ
closing_of lines None = (Done, end_line lines)
closing_of lines (Some fault) = (BadTrace, bad_line fault)

abbrev pub trace_work : Standing → Fed → Work
trace_work at trace = lines_work (closing_of (length trace.lines) trace.fault) at [] trace.lines

abbrev pub start : ℕ → Network → Standing
start workers plan = record { workers = workers; first = plan; later = []; states = first_states plan }

-- the line of an accepted first plan is printed, and then the trace is read
abbrev pub replayed_under : List ℕ → List ℕ → ℕ → Network → Verified → Work
replayed_under plan_name trace_name workers plan accepted =
    print (first_plan_line plan_name accepted.bound) (read trace_name (λ octets. trace_work (start workers plan) (trace_of octets)))

abbrev pub replayed : List ℕ → List ℕ → ℕ → Network → Verdict → Work
replayed plan_name trace_name workers plan = accepted_on [] (replayed_under plan_name trace_name workers plan) plan

unfoldable pub replay_work : PlanFile → List ℕ → ℕ → Work
replay_work file trace_name workers =
    with_plan file (λ plan. if_accepted [] plan (replayed_under file.name trace_name workers plan))
