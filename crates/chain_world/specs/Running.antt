-- What the fields of a running world keep: they are those of the world after its history.
use Rattle.std.specs.Prelude.{◌≡◌, ℕ, ◌<◌, nat_lt, nat_le, ◌==◌, ◌&&◌, ◌||◌, if◌then◌else◌, Bool, false, List, [], ◌∷◌, map, length, sum}
use Rattle.std.specs.Prelude.{get_or, slice_get, Option, Some, None, is_some}
use Rattle.std.specs.List.{list_any, AllByRecursion}
use Rattle.sccp_message.specs.declared.message.Message.{Message}
use Rattle.sccp_message.specs.Written.{message_octets}
use Rattle.sccp_scrc.specs.Arriving.{point_of}
use Rattle.plan_model.specs.Network as plans
use Rattle.plan_model.specs.Network.{IsPlan}
use Rattle.sccp_couple.specs.Runs.{Moment}
use Rattle.couple_chain.specs.declared.happening.Happening.{Happening}
use Rattle.couple_chain.specs.Fit.{IsFit}
use Rattle.couple_chain.specs.Line.{given}
use Rattle.couple_chain.specs.Logged.{IsLogged}
use Rattle.couple_chain.specs.Relays.{Relaying}
use Rattle.couple_chain.specs.World.{Network, World, is_node, is_used, put_on, after}
use Rattle.chain_world.specs.declared.link.Link.{Link}
use Rattle.chain_world.specs.Kept.{network_of}
use Rattle.chain_world.specs.Links.{octets_on, gone_from}
use Rattle.chain_world.specs.Offering.{offers_of}

-- the message that a link delivers next
abbrev pub oldest_of : List Message → Option Message
oldest_of [] = None
oldest_of (message ∷ rest) = Some message

-- the link between the points of this record holds a message that it has not delivered
abbrev pub holds_on : List Link → Link → Bool
holds_on links l = is_some (slice_get (octets_on links l.from l.to) (gone_from links l.from l.to))

-- the link `from` to `to` precedes the link `a` to `b`, by its first point and then its second, or is the same
abbrev pub is_before : ℕ → ℕ → ℕ → ℕ → Bool
is_before from to a b = nat_lt from a || ((from == a) && nat_le to b)

-- the best link so far, if there is one and it precedes the link `a` to `b`; otherwise that link
abbrev pub lesser : Option (ℕ × ℕ) → ℕ → ℕ → ℕ × ℕ
lesser None a b = (a, b)
lesser (Some p) a b = if is_before p.0 p.1 a b then p else (a, b)

-- the first in order of the best link so far and of those in the list that hold a message
abbrev pub best_of : List Link → Option (ℕ × ℕ) → List Link → Option (ℕ × ℕ)
best_of links best [] = best
best_of links best (l ∷ rest) = best_of links (if holds_on links l then Some (lesser best l.from l.to) else best) rest

-- the number of sections of all relays together
abbrev pub sections_of : Network → World → ℕ
sections_of network w = sum (map (λ node. length (w.moments node).sections) network.nodes)

-- what a relay keeps is what the coupling of its point has; `node` is its place in the plan
pub record IsRelay (node : ℕ) (m : Moment) (r : Relaying) : Type 0 where
  pub node_is : r.node ≡ node
  pub sections_are : r.sections ≡ m.sections
  pub passed_is : IsLogged m.pairs r.passed
  pub given_are : r.given ≡ given m

-- what relays and links of a running world keep is, point by point, what the world of the definition has
pub record Keeps (plan : plans.Network) (relays : List Relaying) (links : List Link) (history : List Happening) (w : World) : Type 0 where
  pub is_plan : IsPlan plan
  pub count : length relays ≡ length plan.nodes
  pub each : (node : ℕ) (d : Relaying) → node < length relays → IsRelay node (w.moments (point_of plan node)) (get_or relays node d)
  -- all that was put on a link, and how much of it has arrived
  pub octets : (a b : ℕ) → octets_on links a b ≡ map message_octets (put_on w a b)
  pub gone : (a b : ℕ) → gone_from links a b ≡ length (w.arrived a b)
  -- every message can be handled
  pub fit : (a b : ℕ) → AllByRecursion IsFit (put_on w a b)
  -- the references that an end used are those of its offers
  pub used : (from own : ℕ) → is_node (network_of plan) from ≡ false
      → is_used (network_of plan) w from own ≡ list_any (offers_of from own) history

-- they keep what the history leads to
abbrev pub IsWorld : plans.Network → List Relaying → List Link → List Happening → Type 0
IsWorld plan relays links history = Keeps plan relays links history (after (network_of plan) history)
