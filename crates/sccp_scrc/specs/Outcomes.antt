-- What the answers of a relay say of the message, of the plan and of the marks that are held.
use Rattle.std.specs.Prelude.{◌≡◌, ◌≢◌, ℕ, ◌-◌, ◌<◌, true, false, ◌==◌, List, [], ◌∷◌, length, Some, None, slice_get, IsSomeAnd, Ok}
use Rattle.std.specs.List.{list_any, list_all}
use Rattle.sccp_base.specs.Marks.{holds}
use Rattle.sccp_base.specs.declared.mark.Mark.{Mark}
use Rattle.sccp_base.specs.declared.mark.Mark.TheVariants.{PointCode, Sccp, Subsystem}
use Rattle.sccp_address.specs.declared.address.Address.{Address}
use Rattle.sccp_message.specs.declared.message.Message.{Message}
use Rattle.sccp_message.specs.Reading.{reading}
use Rattle.sccp_message.specs.Written.{message_octets}
use Rattle.plan_model.specs.Network.{Network, node_of}
use Rattle.plan_model.specs.Steps.{cause_of}
use Rattle.sccp_scrc.specs.Unitdata.{redirected}
use Rattle.sccp_scrc.specs.Rewriting.{one_less}
use Rattle.sccp_scrc.specs.Unchanged.{SameData}
use Rattle.sccp_scrc.specs.Arriving.{point_of, subsystems_of}

-- A relayed message goes to another relay of the plan. It routes on title, without a point code. Its hop counter is one
-- less, and all else is as it arrived.
pub record IsRelayed (plan : Network) (node : ℕ) (b : List ℕ) (pc : ℕ) (sent : List ℕ) : Type 0 where
  pub relay : node_of plan.nodes pc < length plan.nodes
  pub other : pc ≢ point_of plan node
  pub message : Message
  pub reads : reading b ≡ Ok message
  pub called : Address
  pub by_title : called.by_ssn ≡ false
  pub pointless : called.pc ≡ None
  pub octets : sent ≡ message_octets (redirected called one_less message)

-- A message with a destination goes to another point, of which the node holds no mark. It routes on the destination's
-- subsystem number, without a point code. Its hop counter is one less, and all else is as it arrived.
pub record IsEnded (plan : Network) (node : ℕ) (marking : List Mark) (b : List ℕ) (pc ssn : ℕ) (sent : List ℕ) : Type 0 where
  pub other : pc ≢ point_of plan node
  pub point : holds marking (PointCode pc) ≡ false
  pub sccp : holds marking (Sccp pc) ≡ false
  pub subsystem : holds marking (Subsystem pc ssn) ≡ false
  pub message : Message
  pub reads : reading b ≡ Ok message
  pub called : Address
  pub on_ssn : called.by_ssn ≡ true
  pub named : called.ssn ≡ Some ssn
  pub pointless : called.pc ≡ None
  pub octets : sent ≡ message_octets (redirected called one_less message)

-- a message for the node itself is for one of its subsystems, which is not prohibited, and has the data that arrived
pub record IsLocal (plan : Network) (node : ℕ) (marking : List Mark) (b : List ℕ) (ssn : ℕ) (new : Message) : Type 0 where
  pub equipped : list_any (λ own. own == ssn) (subsystems_of plan node) ≡ true
  pub allowed : holds marking (Subsystem (point_of plan node) ssn) ≡ false
  pub message : Message
  pub reads : reading b ≡ Ok message
  pub same : SameData message new

-- With marks, the cause is that of the last. Without marks, it is 0 or 1 (no translation), 4 (no such subsystem), 9 (the
-- message cannot be written) or 12 (the hop counter is used up).
abbrev pub IsCause : List Mark → ℕ → Type 0
IsCause [] cause = list_any (λ n. n == cause) (0 ∷ 1 ∷ 4 ∷ 9 ∷ 12 ∷ []) ≡ true
IsCause (mark ∷ marks) cause = IsSomeAnd (slice_get (mark ∷ marks) (length (mark ∷ marks) - 1)) (λ last. cause ≡ cause_of last)

-- a return names marks that the node holds, and the cause is one that fits them
pub record IsReturned (marking : List Mark) (cause : ℕ) (marks : List Mark) : Type 0 where
  pub held : list_all (holds marking) marks ≡ true
  pub why : IsCause marks cause
