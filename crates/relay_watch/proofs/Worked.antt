-- Captured messages of a relay, computed on the definitions.
use Rattle.std.specs.Prelude.{◌≡◌, true, ℕ, List, [], ◌∷◌, Some, None}
use Rattle.std.proofs.Common.{refl}
use Rattle.sccp_message.specs.Reading.{reading, message_in}
use Rattle.sccp_layout.specs.Splitting.{parts_by}
use Rattle.sccp_manage.specs.Statuses.{status as status_message}
use Rattle.sccp_manage.specs.declared.status.StatusKind.TheVariants.{Test}
use Rattle.sccp_address.specs.Reading.{address_of}
use Rattle.plan_rules.specs.Rule.{rule}
use Rattle.plan_rules.specs.declared.target.Target.TheVariants.{Relay, Final}
use Rattle.plan_model.specs.declared.node.Node.{Node}
use Rattle.plan_model.specs.Network.{Network, network}
use Rattle.relay_watch.specs.Arrivals.{begins, joined, kept, given_up}
use Rattle.relay_watch.specs.Verdicts.{verdict_of}
use Rattle.relay_watch.specs.declared.event.Event.{Event}
use Rattle.relay_watch.specs.declared.found.Found.{Found}
use Rattle.relay_watch.specs.declared.verdict.Verdict.TheVariants as verdicts
use Rattle.relay_watch.specs.declared.waiting.Waiting.{Waiting}
use Rattle.relay_watch.specs.declared.why.Why.TheVariants.{Again, NoArrival}

-- Relay a at 1-0-2 has subsystem 8. It hands 49 to relay b at 1-0-3, else to subsystem 6 at 2-0-3.

abbrev a : Node
a = record {
  name = [];
  pc = 2050;
  subsystems = 8 ∷ [];
  concerned = [];
  table = rule (record { kind = 4; translation = 0; plan = 1; nature = 4 }) None (4 ∷ 9 ∷ [])
      (Relay 2051 2 (0 ∷ []) None None ∷ Final 4099 (Some 6) ∷ []) ∷ [];
}

abbrev b : Node
b = record { name = []; pc = 2051; subsystems = []; concerned = []; table = [] }

abbrev plan : Network
plan = network (a ∷ b ∷ []) []

-- a UDT from subsystem 8 at 1-0-1 for 491710000012, with the octet 01
abbrev titled : List ℕ
titled = 0x09 ∷ 0x00 ∷ 0x03 ∷ 0x0E ∷ 0x12 ∷ 0x0B ∷ 0x12 ∷ 0x06 ∷ 0x00 ∷ 0x12 ∷ 0x04 ∷ 0x94 ∷ 0x71 ∷ 0x01 ∷ 0x00 ∷ 0x00 ∷ 0x21 ∷ 0x04 ∷ 0x43
    ∷ 0x01 ∷ 0x08 ∷ 0x08 ∷ 0x01 ∷ 0x01 ∷ []

-- a UDT for subsystem 9, from subsystem 8; it asks for no return
abbrev numbered : List ℕ
numbered = 0x09 ∷ 0x00 ∷ 0x03 ∷ 0x05 ∷ 0x07 ∷ 0x02 ∷ 0x42 ∷ 0x09 ∷ 0x02 ∷ 0x42 ∷ 0x08 ∷ 0x01 ∷ 0x02 ∷ []

-- a UDT for SCCP management
abbrev status : List ℕ
status = 0x09 ∷ 0x00 ∷ 0x03 ∷ 0x05 ∷ 0x07 ∷ 0x02 ∷ 0x42 ∷ 0x01 ∷ 0x02 ∷ 0x42 ∷ 0x01 ∷ 0x05 ∷ 0x03 ∷ 0x06 ∷ 0x01 ∷ 0x10 ∷ 0x00 ∷ []

abbrev event : ℕ → ℕ → ℕ → List ℕ → Event
event number origin destination octets = record { number = number; origin = origin; destination = destination; octets = octets }

abbrev waiting : ℕ → List ℕ → Waiting
waiting number octets = record { number = number; node = 0; origin = 2049; octets = octets; payload = 1 ∷ []; due = true }

abbrev found : ℕ → ℕ → Found
found place by = record { place = place; by = by; ways = [] }

-- it begins to wait, and is due, since with nothing prohibited the relay sends it on
arrives : begins plan (event 1 2049 2050 titled) (reading titled) ≡ Some (waiting 1 titled)
unfolding message_in parts_by address_of
arrives = refl

arrived : verdict_of plan (event 1 2049 2050 titled) None NoArrival (reading titled) ≡ verdicts.Arrived
unfolding message_in parts_by address_of
arrived = refl

-- because of a message for a subsystem, without return, nothing can be sent
only_delivered : begins plan (event 1 2049 2050 numbered) (reading numbered) ≡ None
unfolding message_in parts_by address_of
only_delivered = refl

-- what relay a sends is explained, if an arrival is found
sent : verdict_of plan (event 2 2050 2051 titled) (Some (found 0 1)) NoArrival (reading titled) ≡ verdicts.Explained 1 []
unfolding message_in parts_by address_of
sent = refl

-- otherwise it is management's, or its own user's, or unexplained
by_management : verdict_of plan (event 2 2050 2049 status) None NoArrival (reading status)
    ≡ verdicts.Management (Some (status_message Test 6 4097))
unfolding message_in parts_by address_of
by_management = refl

by_user : verdict_of plan (event 2 2050 2049 numbered) None NoArrival (reading numbered) ≡ verdicts.Own 8
unfolding message_in parts_by address_of
by_user = refl

unexplained : verdict_of plan (event 2 2050 2051 titled) None (Again 1) (reading titled) ≡ verdicts.Unexplained (Again 1)
unfolding message_in parts_by address_of
unexplained = refl

-- the second of three is found, and a new one begins to wait
left : joined (waiting 1 [] ∷ waiting 2 [] ∷ waiting 3 [] ∷ []) (Some 1) (Some (waiting 5 []))
    ≡ waiting 1 [] ∷ waiting 3 [] ∷ waiting 5 [] ∷ []
left = refl

-- few wait, so none is given up
few : given_up (waiting 1 [] ∷ waiting 3 [] ∷ []) ≡ None
few = refl

all_kept : kept (waiting 1 [] ∷ waiting 3 [] ∷ []) ≡ waiting 1 [] ∷ waiting 3 [] ∷ []
all_kept = refl
