-- A plan with one of its covers alone.
use Rattle.std.specs.Prelude.{[], ◌∷◌}
use Rattle.plan_model.specs.declared.cover.Cover.{Cover}
use Rattle.plan_model.specs.Network.{Network, network_within}

-- the same relays with one cover, so the same steps and routes
abbrev pub alone : Network → Cover → Network
alone plan cover = network_within plan.limits plan.nodes (cover ∷ [])
