-- What a replay prints, line by line, and the journey of each message.
use Rattle.std.specs.Prelude.{◌≡◌, ◌⊎◌, ℕ, ◌+◌, ◌-◌, ◌≤◌, false, List, [], ◌∷◌, ◌++◌, length, take, map, filter_map, slice_get, codes}
use Rattle.std.specs.Prelude.{Option, Some, None, Result, Ok, Err, IsTrue, IsSomeAnd}
use Rattle.std.specs.Io.{StartsWith}
use Rattle.std.specs.List.{flat_map}
use Rattle.sccp_base.specs.declared.mark.Mark.{Mark}
use Rattle.sccp_io.specs.Files.{Contents}
use Rattle.sccp_message.specs.declared.message.Message.{Message}
use Rattle.sccp_report.specs.Limits.{too_long_line}
use Rattle.sccp_report.specs.Roles.{routed, role_of}
use Rattle.sccp_report.specs.Served.{served_text}
use Rattle.sccp_report.specs.Verdicts.{verdict_text}
use Rattle.plan_check.specs.declared.longest.Longest.{Longest}
use Rattle.plan_model.specs.declared.limits.Limits.{Limits}
use Rattle.plan_model.specs.declared.plan_fault.PlanFault.{PlanFault}
use Rattle.plan_model.specs.declared.spot.Spot.{Spot}
use Rattle.plan_model.specs.Network.{Network}
use Rattle.plan_model.specs.SameNodes.{same_nodes}
use Rattle.plan_model.specs.Verdicts.{Tight}
use Rattle.plan_text.specs.PlanText.{plan_within}
use Rattle.plan_verify.specs.Lawful.{IsLawful, IsSafeFor}
use Rattle.plan_verify.specs.declared.verdict.Verdict.{Verdict}
use Rattle.relay_net.specs.Batches.{Incoming}
use Rattle.relay_net.specs.Headline.{IsCoveredMessage, GoesWell}
use Rattle.relay_net.specs.Journeys.{journey}
use Rattle.relay_net.specs.declared.outcome.Outcome.{Outcome}
use Rattle.relay_net.specs.declared.travelled.Journey.{Journey}
use Rattle.trace_text.specs.declared.line.Line.TheVariants.{Plan}
use Rattle.trace_text.specs.declared.line.Numbered.{Numbered}
use Rattle.sccp_replay.specs.BatchEnds.{EndsBatch}
use Rattle.sccp_replay.specs.Holding.{held_after}
use Rattle.sccp_replay.specs.LaterPlans.{first_plan_line, accepted_plan_line, refused_plan_head, bad_plan_line, other_nodes_line}
use Rattle.sccp_replay.specs.Replay.{end_line}
use Rattle.sccp_replay.specs.Trace.{lines_in, fault_in}
use Rattle.sccp_work.specs.LineFault.{bad_line}
use Rattle.sccp_work.specs.PlanFile.{PlanFile}
use Rattle.sccp_work.specs.Texts.{read_fault}
use Rattle.sccp_work.specs.Verdict.{status_of, IsOnRefusal}
use Rattle.sccp_work.specs.declared.status.Status.{Status}
use Rattle.sccp_work.specs.declared.status.Status.TheVariants.{Done, BadTrace, TooLong, ReadFault, WriteFault, NoMemory}

-- a plan that was accepted: the name of its file, the plan, and its bound
pub record Published : Type 0 where
  pub name : List ℕ
  pub plan : Network
  pub bound : ℕ

-- the file's text is this plan under its limits, which is safe for the bound and has a route that long
pub record IsAcceptedIn (c : Contents) (a : Published) : Type 0 where
  pub octets : List ℕ
  pub file : c a.name ≡ Some octets
  pub within : length octets ≤ a.plan.limits.octets
  pub reads : plan_within a.plan.limits octets ≡ Ok a.plan
  pub safe : IsSafeFor a.plan a.bound
  pub longest : Longest
  pub tight : Tight a.plan a.bound longest.spot longest.markings

-- a line of the trace, what is printed of it, and the plan that was accepted at it, if any
pub record Piece : Type 0 where
  pub line : Numbered
  pub text : List ℕ
  pub accepted : Option Published

abbrev pub lines_of : List Piece → List Numbered
lines_of pieces = map (λ p. p.line) pieces

-- The plans that were accepted up to here. Number 1 is the first plan, and each later one has the next number, in the order of their
-- lines.
abbrev pub plans_after : Published → List Piece → List Published
plans_after first pieces = first ∷ filter_map (λ p. p.accepted) pieces

-- ---- lines that name a plan

-- The line names the file of a plan of the first one's relays, read under the first one's limits, and its text says that it was
-- accepted under this number.
pub record IsLaterPlan (c : Contents) (first : Network) (number : ℕ) (line : Numbered) (text : List ℕ) (a : Published) : Type 0 where
  pub named : line.line ≡ Plan a.name
  pub accepted : IsAcceptedIn c a
  pub under : a.plan.limits ≡ first.limits
  pub relays : IsTrue (same_nodes first a.plan)
  pub told : text ≡ accepted_plan_line line.number number a.name a.bound

-- the text says why a plan was not: its file's text is none, its relays are others, or the verdict on it is another one
abbrev pub TellsRefusal : Network → ℕ → List ℕ → Result Network PlanFault → List ℕ → Type 0
TellsRefusal first line name (Err fault) text = text ≡ bad_plan_line line name first.limits fault
TellsRefusal first line name (Ok plan) text =
    ((same_nodes first plan ≡ false) × (text ≡ other_nodes_line line name))
    ⊎ ((v : Verdict) × IsLawful plan v × IsOnRefusal (status_of v) × (text ≡ refused_plan_head line name ++ verdict_text plan v))

-- a line that names a plan and accepts none
abbrev pub IsRefused : Contents → Network → Numbered → List ℕ → Type 0
IsRefused c first line text = (name : List ℕ) → line.line ≡ Plan name
    → (octets : List ℕ) × (c name ≡ Some octets) × TellsRefusal first line.number name (plan_within first.limits octets) text

-- before the line there were this number of accepted plans
abbrev pub TellsPlan : Contents → Network → ℕ → Numbered → List ℕ → Option Published → Type 0
TellsPlan c first before line text (Some a) = IsLaterPlan c first (before + 1) line text a
TellsPlan c first before line text None = IsRefused c first line text

-- ---- messages

-- The number of a message's plan is at least that of the plans accepted before its batch, and at most that of those accepted by its
-- end. By one worker it is that of the plans accepted before its line.
pub record IsNumber (workers : ℕ) (first : Published) (before : List Piece) (p : Piece) (after : List Piece) (number : ℕ) : Type 0 where
  pub at_least : (earlier more : List Piece) → before ≡ earlier ++ more → EndsBatch first.plan (lines_of earlier)
      → length (plans_after first earlier) ≤ number
  pub at_most : (more rest : List Piece) → after ≡ more ++ rest → EndsBatch first.plan (lines_of (before ++ p ∷ more))
      → number ≤ length (plans_after first (before ++ p ∷ more))
  pub by_one : workers ≡ 1 → number ≡ length (plans_after first before)

-- What is printed of a message that is routed, with the lines before it and those after it. Its whole journey was under the
-- published plan of a number, and under what the relays held prohibited after the lines before it. If that plan covers the
-- message, with room and a hop counter above the plan's bound, then it went well, whatever the relays held prohibited.
pub record TellsJourney (workers : ℕ) (first : Published) (before : List Piece) (p : Piece) (after : List Piece) (x : Incoming) : Type 0
  where
    pub number : ℕ
    pub is_number : IsNumber workers first before p after number
    pub under : Published
    pub is_published : slice_get (plans_after first (before ++ p ∷ after)) (number - 1) ≡ Some under
    pub prohibited : List (List Mark)
    pub held : prohibited ≡ held_after first.plan (lines_of before)
    pub way : Journey
    pub is_way : way ≡ journey under.plan prohibited x.entry x.origin x.octets
    pub outcomes : List Outcome
    pub told : p.text ≡ served_text first.plan p.line.number number way outcomes
    pub well : (m : Message) (s : Spot) → IsCoveredMessage under.plan under.bound x.entry x.octets m s
        → GoesWell under.plan prohibited under.bound m s way.path way.end

-- if the line is a message that is routed, its text gives its journey
abbrev pub TellsMessage : ℕ → Published → List Piece → Piece → List Piece → Type 0
TellsMessage workers first before p after =
    (x : Incoming) → role_of first.plan p.line.line ≡ routed x → TellsJourney workers first before p after x

-- a line on the first plan, then what there is to print of each of these lines of the trace, and a last line
pub record Account (c : Contents) (file : PlanFile) (workers : ℕ) (lines : List Numbered) (last text : List ℕ) : Type 0 where
  pub first : Published
  pub named : first.name ≡ file.name
  pub under : first.plan.limits ≡ file.limits
  pub accepted : IsAcceptedIn c first
  pub pieces : List Piece
  pub of_lines : lines_of pieces ≡ lines
  pub plans : (before : List Piece) (p : Piece) (after : List Piece) → pieces ≡ before ++ p ∷ after
      → TellsPlan c first.plan (length (plans_after first before)) p.line p.text p.accepted
  pub messages : (before : List Piece) (p : Piece) (after : List Piece) → pieces ≡ before ++ p ∷ after
      → TellsMessage workers first before p after
  pub whole : text ≡ first_plan_line file.name first.bound ++ (flat_map (λ p. p.text) pieces ++ last)

-- the last line under an answer; under Done and BadTrace all lines are printed, and a plan that is too long has passed these limits
abbrev pub IsLastLine : Contents → Limits → List ℕ → List Numbered → List ℕ → Status → Type 0
IsLastLine c limits trace_name lines last Done = (lines ≡ lines_in c trace_name) × (last ≡ end_line (length lines))
IsLastLine c limits trace_name lines last BadTrace = (lines ≡ lines_in c trace_name)
    × IsSomeAnd (fault_in c trace_name) (λ fault. last ≡ bad_line fault)
IsLastLine c limits trace_name lines last TooLong = last ≡ too_long_line limits
IsLastLine c limits trace_name lines last ReadFault = last ≡ read_fault
IsLastLine c limits trace_name lines last status = ⊥

-- The text is the account of some first lines of the trace. If the sink failed or memory was wanting, it is a front of one.
abbrev pub IsTextUnder : Contents → Limits → List ℕ → List Numbered → List ℕ → List ℕ → List ℕ → Status → Type 0
IsTextUnder c limits trace_name lines last whole text WriteFault = StartsWith whole text
    × ((last ≡ []) ⊎ ((s : Status) × IsLastLine c limits trace_name lines last s))
IsTextUnder c limits trace_name lines last whole text NoMemory = StartsWith whole text
    × ((last ≡ []) ⊎ ((s : Status) × IsLastLine c limits trace_name lines last s))
IsTextUnder c limits trace_name lines last whole text status = (text ≡ whole) × IsLastLine c limits trace_name lines last status

pub record IsTold (c : Contents) (file : PlanFile) (trace_name : List ℕ) (workers : ℕ) (given : Status) (text : List ℕ) : Type 0 where
  pub count : ℕ
  pub last : List ℕ
  pub whole : List ℕ
  pub account : Account c file workers (take count (lines_in c trace_name)) last whole
  pub so : IsTextUnder c file.limits trace_name (take count (lines_in c trace_name)) last whole text given

-- whenever it is printed that the first plan was accepted; under Done and BadTrace it is
pub record TellsReplay (c : Contents) (file : PlanFile) (trace_name : List ℕ) (workers : ℕ) (given : Status) (text : List ℕ) : Type 0 where
  pub told : StartsWith text (codes "plan 1 ") → IsTold c file trace_name workers given text
  pub begins : (given ≡ Done) ⊎ (given ≡ BadTrace) → StartsWith text (codes "plan 1 ")
