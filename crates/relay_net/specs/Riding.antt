-- A trip on the way.
use Rattle.std.specs.Prelude.{◌≡◌, ℕ, false, List, ◌++◌, Option, IfSome}
use Rattle.sccp_base.specs.declared.mark.Mark.{Mark}
use Rattle.sccp_message.specs.declared.message.Message.{Message}
use Rattle.sccp_message.specs.Unitdata.{called_of}
use Rattle.plan_model.specs.declared.hop.Hop.{Hop}
use Rattle.plan_model.specs.Network.{Network}
use Rattle.sccp_scrc.specs.Arriving.{by_called}
use Rattle.sccp_scrc.specs.Passing.{is_relayed, IsStepped}
use Rattle.relay_net.specs.Journeys.{Trip}

-- The nodes of a path, and then what is left of a trip, are those of an earlier path, and then what was left before. The
-- last arrival is the same.
pub record GoesOn (earlier : List ℕ) (before : Trip) (path : List ℕ) (rest : Trip) : Type 0 where
  pub last : before.last ≡ rest.last
  pub nodes : earlier ++ before.path ≡ path ++ rest.path

-- From no origin is the message relayed by the node, which holds the marking. A hop that is given was looked up for it there.
pub record Rests (plan : Network) (node : ℕ) (marking : List Mark) (m : Message) (hop : Option Hop) : Type 0 where
  pub unrelayed : (origin : ℕ) → is_relayed (by_called plan node marking origin m (called_of m)) ≡ false
  pub found : IfSome hop (IsStepped plan node marking (λ origin. by_called plan node marking origin m (called_of m)) m)
