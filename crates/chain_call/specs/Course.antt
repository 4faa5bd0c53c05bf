-- The course of a connection: all that has happened so far.
use Rattle.std.specs.Prelude.{ℕ, List, []}
use Rattle.plan_model.specs.Network as plans
use Rattle.couple_chain.specs.declared.happening.Happening.{Happening}
use Rattle.couple_chain.specs.World.{World}
use Rattle.chain_world.specs.Kept.{Kept, kept, world_of}
use Rattle.chain_call.specs.declared.handed.Handed.{Handed}

-- The plan, and all that has happened in its world. Since the connection began: what ends were handed, how many messages were
-- offered, and how many deliveries were made.
pub record Course : Type 0 where
  pub plan : plans.Network
  pub history : List Happening
  pub handed : List Handed
  pub offers : ℕ
  pub deliveries : ℕ

-- a course, made of a world and the rest
abbrev pub course : Kept → List Handed → ℕ → ℕ → Course
course k handed offers deliveries = record { plan = k.plan; history = k.history; handed = handed; offers = offers; deliveries = deliveries }

-- a connection that is about to begin in a world
abbrev pub beginning : Kept → Course
beginning k = course k [] 0 0

-- the world after the history
abbrev pub world_at : Course → World
world_at c = world_of (kept c.plan c.history)
