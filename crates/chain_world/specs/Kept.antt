-- What a running world is to its callers: its plan and its history.
use Rattle.std.specs.Prelude.{List, [], map}
use Rattle.plan_model.specs.Network as plans
use Rattle.plan_model.specs.Network.{node_of}
use Rattle.sccp_couple.specs.Ways.{way_of}
use Rattle.couple_chain.specs.declared.happening.Happening.{Happening}
use Rattle.couple_chain.specs.World.{Network, World, after}

-- a running world: its plan, and all that has happened in it, oldest first
pub record Kept : Type 0 where
  pub plan : plans.Network
  pub history : List Happening

-- a running world, made of these two
abbrev pub kept : plans.Network → List Happening → Kept
kept plan history = record { plan = plan; history = history }

-- the points of the plan's nodes, and what the plan says of a connection request at one of them while nothing is prohibited
abbrev pub network_of : plans.Network → Network
network_of plan = record {
  nodes = map (λ node. node.pc) plan.nodes;
  way = λ point origin message. way_of plan (node_of plan.nodes point) [] message;
}

-- the world after the history
abbrev pub world_of : Kept → World
world_of k = after (network_of k.plan) k.history
