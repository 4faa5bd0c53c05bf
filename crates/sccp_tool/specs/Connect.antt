-- The command that makes one connection over the relays of a plan.
use Rattle.std.specs.Prelude.{◌≡◌, ◌≤◌, ◌^◌, ℕ, ◌==◌, ◌&&◌, ◌%◌, Bool, List, [], ◌∷◌, ◌++◌, codes, length, Option, Some, None, is_some}
use Rattle.std.specs.Prelude.{option_and_then}
use Rattle.std.specs.Prelude.{option_map, if◌then◌else◌}
use Rattle.std.specs.List.{flat_map, position}
use Rattle.std.specs.Io.KnownBytes.{append_known}
use Rattle.chain_call.specs.Answered.{AllowsEnds, spot_called}
use Rattle.chain_call.specs.Course.{beginning}
use Rattle.chain_call.specs.Steps.{outcome}
use Rattle.chain_call.specs.declared.call.Call.{Call}
use Rattle.chain_call.specs.declared.outcome.Outcome.{Outcome}
use Rattle.chain_call.specs.declared.outcome.Outcome.TheVariants.{Unsettled, Unanswered, Refused, Opened}
use Rattle.chain_call.specs.declared.outcome.Through.{Through}
use Rattle.chain_world.specs.Kept.{kept}
use Rattle.plan_model.specs.declared.limits.Limits.{Limits}
use Rattle.plan_check.specs.Verified.{Verified}
use Rattle.plan_model.specs.Covered.{Covered, IsAllowed}
use Rattle.plan_model.specs.Network.{Network, has_name, has_point}
use Rattle.plan_model.specs.declared.spot.Spot.{Spot}
use Rattle.plan_verify.specs.Lawful.{IsLawful}
use Rattle.plan_verify.specs.declared.verdict.Verdict.TheVariants.{Accepted}
use Rattle.sccp_io.specs.Files.{Contents}
use Rattle.sccp_base.specs.Text.{point_code_of}
use Rattle.sccp_message.specs.declared.cause.CauseTable.TheVariants.{Refusal}
use Rattle.sccp_report.specs.Fields.{cause_line}
use Rattle.sccp_report.specs.Values.{numbered, octets_text, point_code_text}
use Rattle.sccp_scrc.specs.Arriving.{point_of}
use Rattle.trace_text.specs.Forms.{file_name}
use Rattle.trace_text.specs.Hex.{hex_word}
use Rattle.sccp_work.specs.Accepting.{if_accepted}
use Rattle.sccp_work.specs.PlanFile.{PlanFile, plan_file}
use Rattle.sccp_work.specs.Plans.{with_plan, HasPlan}
use Rattle.sccp_plans.specs.Starts.{start_of}
use Rattle.sccp_tool.specs.Task.{Task, Connect}
use Rattle.sccp_plans.specs.Texts.{unknown_node}
use Rattle.sccp_work.specs.Work.{Work, answered}
use Rattle.sccp_tool.specs.declared.connect.Calling.{Calling}
use Rattle.sccp_plans.specs.declared.start.Start.{Start}
use Rattle.sccp_work.specs.declared.status.Status.{Status}
use Rattle.sccp_work.specs.declared.status.Status.TheVariants.{Done}

-- ---- the words

-- a title of kind 2 cannot say that its number of digits is odd
abbrev pub is_unsaid : Start → Bool
is_unsaid start = (start.selector.kind == 2) && (length start.digits % 2 == 1)

abbrev pub said : Start → Option Start
said start = if is_unsaid start then None else Some start

-- the title that is called, the point of the end that calls it, and the octets that are sent over the connection
unfoldable pub calling_of : List ℕ → List ℕ → List ℕ → List ℕ → List ℕ → List ℕ → Option Calling
calling_of node from selector ssn digits octets =
    option_and_then (λ title. option_and_then (λ start. option_and_then
    (λ pc. option_map (λ b. record { start = start; from = pc; octets = b })
    (hex_word octets)) (point_code_of from)) (said title)) (start_of node selector ssn digits)

unfoldable pub connect_of : Limits → List ℕ → List ℕ → List ℕ → List ℕ → List ℕ → List ℕ → List ℕ → Option Task
connect_of limits plan node from selector ssn digits octets = option_and_then
    (λ name. option_map (Connect (plan_file name limits)) (calling_of node from selector ssn digits octets)) (file_name plan)

-- PLAN NODE FROM SELECTOR SSN DIGITS HEX
unfoldable pub connect_words : Limits → List (List ℕ) → Option Task
connect_words limits (plan ∷ node ∷ from ∷ selector ∷ ssn ∷ digits ∷ octets ∷ []) =
    connect_of limits plan node from selector ssn digits octets
connect_words limits words = None

-- ---- the lines

unfoldable pub next_name : List ℕ → List ℕ
next_name name = codes "," ++ name

-- names with commas between them
unfoldable pub names_text : List (List ℕ) → List ℕ
names_text [] = []
names_text (name ∷ names) = name ++ flat_map next_name names

unfoldable pub opened_line : List (List ℕ) → ℕ → List ℕ
opened_line names far = codes "opened via " ++ names_text names ++ codes " to " ++ point_code_text far ++ codes "\n"

unfoldable pub octets_line : List ℕ → List ℕ → List ℕ
octets_line name octets = name ++ octets_text octets ++ codes "\n"

unfoldable pub sections_line : ℕ → List ℕ
sections_line count = numbered (codes "sections ") count ++ codes "\n"

unfoldable pub unsettled_line : List ℕ
unsettled_line = codes "unsettled\n"

-- what went over the connection
unfoldable pub through_lines : Option Through → List ℕ
through_lines None = unsettled_line
through_lines (Some t) = octets_line (codes "forth ") t.forth ++ octets_line (codes "back ") t.back ++ sections_line t.sections

-- the outcome
unfoldable pub outcome_text : Outcome → List ℕ
outcome_text Unsettled = unsettled_line
outcome_text Unanswered = codes "unanswered\n"
outcome_text (Refused cause) = cause_line (codes "refused ") Refusal cause
outcome_text (Opened names far through) = opened_line names far ++ through_lines through

-- the title's subsystem number, if it has one
abbrev pub ssn_in : ℕ → Option ℕ
ssn_in ssn = if ssn == 0 then None else Some ssn

abbrev pub call_of : Network → ℕ → Calling → Call
call_of plan node calling = record {
  from = calling.from;
  entry = point_of plan node;
  selector = calling.start.selector;
  digits = calling.start.digits;
  ssn = ssn_in calling.start.ssn;
  octets = calling.octets;
}

-- a connection that begins in a world in which nothing has happened
abbrev pub call_text : Network → ℕ → Calling → List ℕ
call_text plan node calling = outcome_text (outcome (call_of plan node calling) (beginning (kept plan [])))

unfoldable pub end_is_node : List ℕ
end_is_node = codes "end is a node\n"

-- an end is a point that no node has
abbrev pub text_by : Network → Calling → Option ℕ → Bool → List ℕ
text_by plan calling None inner = unknown_node
text_by plan calling (Some node) inner = if inner then end_is_node else call_text plan node calling

abbrev pub connect_text : Network → Calling → List ℕ
connect_text plan calling =
    text_by plan calling (position (has_name calling.start.node) plan.nodes) (is_some (position (has_point calling.from) plan.nodes))

-- a plan that is not accepted gives its verdict
abbrev pub connect_judged : Calling → Network → Work
connect_judged calling plan = if_accepted [] plan (λ accepted. answered (Done, connect_text plan calling))

-- the plan is read and verified first
abbrev pub connect_work : PlanFile → Calling → Work
connect_work file calling = with_plan file (λ plan. connect_judged calling plan)

-- ---- what the text says

-- the text of an open connection: the octets came out at both ends, and no section is left
abbrev pub open_text : List (List ℕ) → ℕ → List ℕ → List ℕ
open_text names far octets = opened_line names far ++ through_lines (Some (record { forth = octets; back = octets; sections = 0 }))

-- the connection was refused, or it is open
pub data TellsAnswered (octets text : List ℕ) : Type 0 where
  is_refused : (cause : ℕ) → text ≡ cause_line (codes "refused ") Refusal cause → TellsAnswered octets text
  is_open : (names : List (List ℕ)) (far : ℕ) → text ≡ open_text names far octets → TellsAnswered octets text

-- it is open over at most this number of relays, to a point that the plan allows for the title
abbrev pub TellsReached : Network → Spot → ℕ → List ℕ → List ℕ → Type 0
TellsReached plan spot most octets text = (names : List (List ℕ)) × (far : ℕ) × (ssn : ℕ) × (length names ≤ most)
    × IsAllowed plan spot far ssn × (text ≡ open_text names far octets)

-- Of a call from an end to the relay at this place, over a plan that is safe for a bound: it was answered. If the plan covers the title,
-- and allows no place at a relay for it, the connection is open over at most that many relays.
abbrev pub TellsCall : Network → ℕ → ℕ → Calling → List ℕ → Type 0
TellsCall plan bound node calling text = TellsAnswered calling.octets text
    × (Covered plan (spot_called plan (call_of plan node calling)) → AllowsEnds plan (spot_called plan (call_of plan node calling))
    → TellsReached plan (spot_called plan (call_of plan node calling)) bound calling.octets text)

-- The plan was accepted with its bound, and the sink took a text that says so if the words name a relay of the plan and, for the end
-- that calls, a point that no relay has. The word of the octets has at most 2^57 digits.
abbrev pub ConnectTells : Option Contents → PlanFile → Calling → Status → Option (List ℕ) → Option (List ℕ) → Type 0
ConnectTells contents file calling given taken taken' = given ≡ Done → HasPlan contents file (λ plan. (accepted : Verified)
    × IsLawful plan (Accepted accepted) × (text : List ℕ) × (taken' ≡ append_known taken text)
    × (length calling.octets ≤ 2 ^ 56 → (node : ℕ) → position (has_name calling.start.node) plan.nodes ≡ Some node
    → position (has_point calling.from) plan.nodes ≡ None → TellsCall plan accepted.bound node calling text))
