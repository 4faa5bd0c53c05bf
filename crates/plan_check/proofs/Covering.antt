-- a covered spot is at a node of the plan
use Rattle.std.specs.Prelude.{◌<◌, length}
use Rattle.std.proofs.Common.{subst, arith}
use Rattle.plan_model.specs.declared.spot.Spot.{Spot}
use Rattle.plan_model.specs.Network.{Network, IsPlan, IsCover}
use Rattle.plan_model.specs.Covered.{Covered}

pub covered_node : (plan : Network) (spot : Spot) → IsPlan plan → Covered plan spot → spot.node < length plan.nodes
covered_node plan spot is cov =
    let cover : IsCover plan.nodes cov.1 = subst (IsCover plan.nodes) cov.3 (is.sound_covers cov.0 cov.1 cov.2) in
    omega (arith, cov.4.node, cover.node)
