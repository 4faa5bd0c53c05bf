-- The spot to which a step sends a title.
use Rattle.std.specs.Prelude.{Option, Some, None}
use Rattle.plan_model.specs.declared.spot.Spot.{Spot}
use Rattle.plan_model.specs.declared.hop.Step.{Step}
use Rattle.plan_model.specs.declared.hop.Step.TheVariants.{Sent, Ended, Blocked, NoRow, Overgrown}

-- the spot that the title is sent to
abbrev pub next_of : Step → Option Spot
next_of (Sent next target) = Some next
next_of (Ended pc ssn target) = None
next_of (Blocked cause marks) = None
next_of (NoRow cause) = None
next_of Overgrown = None
