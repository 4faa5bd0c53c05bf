-- The lines of a batch that has begun.
use Rattle.std.specs.Prelude.{◌≡◌, ℕ, ◌+◌, ◌≤◌, Bool, true, false, List, length, filter, map}
use Rattle.std.specs.List.{All}
use Rattle.plan_model.specs.Network.{Network}
use Rattle.sccp_report.specs.Roles.{Role, routed, later, aside, role_of, StandsIn}
use Rattle.trace_text.specs.declared.line.Line.{Line}
use Rattle.trace_text.specs.declared.line.Line.TheVariants.{Skip}
use Rattle.trace_text.specs.declared.line.Numbered.{Numbered}
use Rattle.sccp_replay.specs.Incoming.{incoming_in}
use Rattle.sccp_replay.specs.Replay.{Standing, is_message, is_full}
use Rattle.sccp_replay.specs.declared.joined.Joined.{Joined}
use Rattle.sccp_replay.specs.declared.joined.Joining.{Joining}
use Rattle.sccp_replay.specs.declared.joined.Joining.TheVariants.{Routed, Later, Aside}

-- what the code knows of a line that joined a batch, as a role
abbrev pub joining_role : Joining → Role
joining_role (Routed x) = routed (incoming_in x)
joining_role (Later name) = later name
joining_role Aside = aside

-- It is the role of the line to a plan, and a message arrives at a node of that plan.
abbrev pub IsJoined : Network → Joined → Type 0
IsJoined plan one = (joining_role one.joining ≡ role_of plan one.line.line) × StandsIn plan (joining_role one.joining)

abbrev pub line_in : Joined → Numbered
line_in one = one.line

abbrev pub lines_in : List Joined → List Numbered
lines_in batch = map line_in batch

abbrev pub has_message : Numbered → Bool
has_message line = is_message line.line

abbrev pub messages_in : List Numbered → ℕ
messages_in lines = length (filter has_message lines)

-- this number of them are messages, 1,024 at most
pub record AreGathered (batch : List Joined) (messages : ℕ) : Type 0 where
  pub count : messages ≡ messages_in (lines_in batch)
  pub few : messages ≤ 1024

-- a batch that more lines may join, each with its role to a plan
pub record IsBegun (plan : Network) (batch : List Joined) : Type 0 where
  pub few : is_full (lines_in batch) ≡ false
  pub joined : All (IsJoined plan) batch

-- a line that a batch may leave out
abbrev pub is_skipped : Line → Bool
is_skipped Skip = true
is_skipped line = false

-- ---- each later plan has a line of its own, and a trace has at most 1,000,000

-- a batch that may be done
pub record MayBeDone (at : Standing) (batch : List Joined) : Type 0 where
  pub joined : All (IsJoined at.first) batch
  pub few : length at.later + length batch ≤ 1000000

-- a batch that this number of further lines may join or end
pub record MayTake (lines : ℕ) (at : Standing) (batch : List Joined) : Type 0 where
  pub begun : IsBegun at.first batch
  pub few : length at.later + length batch + lines ≤ 1000000

-- this number of lines joined or ended it
pub record HasTaken (lines : ℕ) (at : Standing) (batch : List Joined) (at' : Standing) (batch' : List Joined) : Type 0 where
  pub begun : IsBegun at'.first batch'
  pub few : length at'.later + length batch' ≤ length at.later + length batch + lines
