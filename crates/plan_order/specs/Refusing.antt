-- What a bad mixed route says of other steps.
use Rattle.std.specs.Prelude.{ℕ, Bool, ◌||◌, not, IsTrue, List, map}
use Rattle.std.specs.List.{All}
use Rattle.plan_model.specs.Network.{Network}
use Rattle.plan_mixed.specs.declared.which.Which.{Which}
use Rattle.plan_mixed.specs.declared.which.Which.TheVariants.{Old, New}
use Rattle.plan_change.specs.declared.mixed_hop.MixedHop.{MixedHop}
use Rattle.plan_order.specs.declared.held.Held.{Held}
use Rattle.plan_order.specs.Sets.{is_in}
use Rattle.plan_order.specs.Steps.{IsSafeStep}

-- whether a relay may hold the plan meanwhile, if it is done or not, and of the step or not
abbrev pub lets_hold : Which → Bool → Bool → Bool
lets_hold Old done step = not done
lets_hold New done step = done || step

-- whether the step after these relays lets the relay hold the plan that it held
abbrev pub lets : List ℕ → List ℕ → Held → Bool
lets done step held = lets_hold held.which (is_in done held.node) (is_in step held.node)

-- the relays of a route, each with the plan that it held
abbrev pub held_at : MixedHop → Held
held_at hop = record { node = hop.hop.spot.node; which = hop.which }

abbrev pub held_of : List MixedHop → List Held
held_of hops = map held_at hops

-- no step is safe that lets each of these relays hold the plan that it held
abbrev pub Refuses : Network → Network → List Held → Type 0
Refuses old new refusal =
    (done step : List ℕ) → All (λ held. IsTrue (lets done step held)) refusal → IsSafeStep old new done step → ⊥
