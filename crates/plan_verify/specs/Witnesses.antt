-- What a refusal shows.
use Rattle.std.specs.Prelude.{IsTrue, ◌↔◌}
use Rattle.plan_model.specs.Network.{Network}
use Rattle.plan_model.specs.Verdicts.{Bad, IsSteady}
use Rattle.plan_model.specs.Spots.{IsInRange}
use Rattle.plan_verify.specs.declared.witness.Witness.{Witness}

-- a bad route in range, and whether one marking for all relays gives it as well
pub record IsWitness (plan : Network) (w : Witness) : Type 0 where
  pub bad : Bad plan w.cover w.spot w.markings w.hops w.kind
  pub steady : IsTrue w.steady ↔ IsSteady plan w.spot w.markings w.hops
  pub range : IsInRange plan w.spot w.markings
