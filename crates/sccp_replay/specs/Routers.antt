-- Who routes, as the code keeps it.
use Rattle.sccp_replay.specs.Routings.{Routing}
use Rattle.sccp_replay.specs.declared.router.Router.{Router}
use Rattle.sccp_replay.specs.declared.router.Router.TheVariants.{Alone, Crew}

abbrev pub routing_of : Router → Routing
routing_of (Alone alone) = alone
routing_of (Crew crew) = crew
