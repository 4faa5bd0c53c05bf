-- What becomes of a covered message under a safe plan.
use Rattle.std.specs.Prelude.{◌≡◌, ◌≢◌, ℕ, ◌<◌, ◌≤◌, false, List, [], ◌∷◌, length, Some, None, IfSome, Ok}
use Rattle.sccp_base.specs.Marks.{holds}
use Rattle.sccp_base.specs.declared.mark.Mark.{Mark}
use Rattle.sccp_base.specs.declared.mark.Mark.TheVariants.{PointCode, Sccp, Subsystem}
use Rattle.sccp_message.specs.declared.message.Message.{Message}
use Rattle.sccp_message.specs.Reading.{reading}
use Rattle.sccp_message.specs.Unitdata.{called_of, hops_of}
use Rattle.plan_model.specs.declared.spot.Spot.{Spot}
use Rattle.plan_model.specs.Network.{Network}
use Rattle.plan_model.specs.Covered.{Covered, IsAllowed}
use Rattle.plan_model.specs.Next.{next_of}
use Rattle.plan_model.specs.Named.{NamesMarks}
use Rattle.plan_model.specs.Steps.{step}
use Rattle.sccp_address.specs.declared.address.Address.{Address}
use Rattle.sccp_scrc.specs.Unitdata.{Room}
use Rattle.sccp_scrc.specs.Rewriting.{spot_of}
use Rattle.sccp_scrc.specs.Unchanged.{IsFor}
use Rattle.sccp_scrc.specs.Arriving.{point_of}
use Rattle.relay_net.specs.declared.end.End.{End}
use Rattle.relay_net.specs.declared.end.End.TheVariants.{Ended, Local, Returned, Connection, Management, Undecodable, Cut}
use Rattle.relay_net.specs.Journeys.{held_at}

-- The octets read as a connectionless message that routes on a global title. Its spot is covered, it has room, and its hop
-- counter, if it has one, is above the bound.
pub record IsCoveredMessage (plan : Network) (bound entry : ℕ) (b : List ℕ) (m : Message) (s : Spot) : Type 0 where
  pub reads : reading b ≡ Ok m
  pub called : Address
  pub connectionless : called_of m ≡ Some called
  pub by_title : called.by_ssn ≡ false
  pub at : spot_of entry called ≡ Some s
  pub covered : Covered plan s
  pub room : Room m
  pub hops : IfSome (hops_of m) (λ n. bound < n)

-- the path has the nodes of a way of the title from one spot to another, each step under the marking of its node
abbrev pub Follows : Network → List (List Mark) → Spot → List ℕ → Spot → Type 0
Follows plan states s [] z = ⊥
Follows plan states s (node ∷ []) z = (node ≡ s.node) × (s ≡ z)
Follows plan states s (node ∷ next ∷ nodes) z =
    (node ≡ s.node) × (u : Spot) × (next_of (step plan s (held_at states node)) ≡ Some u) × Follows plan states u (next ∷ nodes) z

-- A good end at the spot z. It is a place that is allowed and of which z's node holds no mark, with the message's data. Or
-- it is a return with the marks that close each target.
abbrev pub IsGoodEnd : Network → (ℕ → ℕ → Type 0) → Message → Spot → List Mark → End → Type 0
IsGoodEnd plan allowed m z marking (Ended pc ssn octets) =
    allowed pc ssn × (pc ≢ point_of plan z.node)
    × (holds marking (PointCode pc) ≡ false) × (holds marking (Sccp pc) ≡ false) × (holds marking (Subsystem pc ssn) ≡ false)
    × ((new : Message) × (reading octets ≡ Ok new) × IsFor ssn m new)
IsGoodEnd plan allowed m z marking (Local ssn new) =
    allowed (point_of plan z.node) ssn × (holds marking (Subsystem (point_of plan z.node) ssn) ≡ false) × IsFor ssn m new
IsGoodEnd plan allowed m z marking (Returned cause marks) = NamesMarks plan z marking cause marks
IsGoodEnd plan allowed m z marking (Connection new) = ⊥
IsGoodEnd plan allowed m z marking (Management new) = ⊥
IsGoodEnd plan allowed m z marking (Undecodable fault) = ⊥
IsGoodEnd plan allowed m z marking Cut = ⊥

-- the path has at most `bound` nodes, and follows the title's way to an end that is good
pub record GoesWell (plan : Network) (states : List (List Mark)) (bound : ℕ) (m : Message) (s : Spot) (path : List ℕ)
    (end : End) : Type 0 where
  pub few : length path ≤ bound
  pub stop : Spot
  pub way : Follows plan states s path stop
  pub good : IsGoodEnd plan (IsAllowed plan s) m stop (held_at states stop.node) end

-- Only a message without a hop counter is cut off, after fourteen nodes.
pub record IsCutOff (b : List ℕ) (path : List ℕ) : Type 0 where
  pub message : Message
  pub reads : reading b ≡ Ok message
  pub uncounted : hops_of message ≡ None
  pub nodes : length path ≡ 14
