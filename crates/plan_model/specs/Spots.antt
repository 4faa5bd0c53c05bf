-- The ranges of the spots that covered titles reach, and of the marks under which they do.
use Rattle.std.specs.Prelude.{◌≡◌, ◌<◌, ◌≤◌, ◌%◌, List, length}
use Rattle.std.specs.List.{All}
use Rattle.sccp_base.specs.Selector.{IsSelector}
use Rattle.sccp_base.specs.Marks.{IsMarking}
use Rattle.sccp_base.specs.declared.mark.Mark.{Mark}
use Rattle.plan_model.specs.declared.spot.Spot.{Spot}
use Rattle.plan_model.specs.Network.{Network}
use Rattle.plan_model.specs.Routes.{route}

-- A spot at a node of the plan whose numbers fit a message. It has a selector, a subsystem number of one octet, and up to 32
-- half-octets. A title of kind 2 has an even number of them, since it has no sign for an odd one (ITU-T Q.713 section 3.4.2.3).
pub record IsSpotOf (plan : Network) (s : Spot) : Type 0 where
  pub node : s.node < length plan.nodes
  pub selector : IsSelector s.selector
  pub ssn : s.ssn < 256
  pub few : length s.digits ≤ 32
  pub halves : All (λ d. d < 16) s.digits
  pub even : s.selector.kind ≡ 2 → length s.digits % 2 ≡ 0

-- a route whose numbers are in range: each marking is an ascending list of marks of real points, and each hop has such a spot
pub record IsInRange (plan : Network) (s : Spot) (ms : List (List Mark)) : Type 0 where
  pub markings : All IsMarking ms
  pub spots : All (λ hop. IsSpotOf plan hop.spot) (route plan s ms)
