-- What is the same while relays may hold other plans.
use Rattle.std.specs.Prelude.{ℕ, ◌≡◌, ◌⊎◌, List}
use Rattle.sccp_base.specs.declared.mark.Mark.{Mark}
use Rattle.plan_model.specs.declared.spot.Spot.{Spot}
use Rattle.plan_model.specs.Network.{Network}
use Rattle.plan_model.specs.Steps.{step}
use Rattle.plan_mixed.specs.declared.which.Which.{Which}
use Rattle.plan_mixed.specs.declared.holding.Holding.{Holding}
use Rattle.plan_mixed.specs.Holdings.{MayHold}
use Rattle.plan_change.specs.declared.mixed_hop.MixedHop.{MixedHop}

-- both plans do the same with each title at this node
abbrev pub DoSame : Network → Network → ℕ → Type 0
DoSame old new node = (spot : Spot) (marking : List Mark) → spot.node ≡ node → step old spot marking ≡ step new spot marking

-- each relay may hold by the first list what it may hold by the second, if the plans do not do the same there
abbrev pub LetsMore : Network → Network → List Holding → List Holding → Type 0
LetsMore old new more fewer = (node : ℕ) (which : Which) → MayHold fewer node which → MayHold more node which ⊎ DoSame old new node

-- the hop's relay may hold the plan that it held
abbrev pub FitsHop : List Holding → MixedHop → Type 0
FitsHop may hop = MayHold may hop.hop.spot.node hop.which
