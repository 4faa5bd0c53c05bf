-- What a node can send because of octets, over all markings, each with the condition under which it does.
use Rattle.std.specs.Prelude.{◌≡◌, true, ℕ, if◌then◌else◌, List, [], ◌∷◌, ◌++◌, Option, Some, None, IsSome}
use Rattle.std.specs.Bool.{MatchBool}
use Rattle.std.specs.List.{All, filter, flat_map, list_any}
use Rattle.sccp_base.specs.Marks.{IsMarking}
use Rattle.sccp_base.specs.declared.mark.Mark.{Mark}
use Rattle.sccp_base.specs.declared.mark.Mark.TheVariants.{PointCode, Sccp}
use Rattle.plan_model.specs.Network.{Network}
use Rattle.sccp_scrc.specs.Arriving.{arrival, point_of}
use Rattle.sccp_scrc.specs.declared.arrival.Arrival.{Arrival}
use Rattle.sccp_scrc.specs.declared.arrival.Arrival.TheVariants.{Relayed, Ended, Local, Returned, Connection, Management, Undecodable}
use Rattle.sccp_scrc.specs.declared.way.Way as back
use Rattle.sccp_scrc.specs.declared.way.Way.TheVariants.{Direct, Shut, ByTitle}
use Rattle.relay_ways.specs.Conditions.{condition, both, is_possible, meets, IsPossible}
use Rattle.relay_ways.specs.Sends.{sending, forwarded, sends}
use Rattle.relay_ways.specs.Outcomes.{Outcome, outcomes}
use Rattle.relay_ways.specs.declared.condition.Condition.{Condition}
use Rattle.relay_ways.specs.declared.way.Sending.{Sending}
use Rattle.relay_ways.specs.declared.way.Way.{Way}

abbrev pub way : Condition → Sending → Way
way c s = record { condition = c; sending = s }

abbrev pub way_if : Condition → Option Sending → List Way
way_if c None = []
way_if c (Some s) = way c s ∷ []

-- the point is not prohibited, and has its SCCP
abbrev pub reaches : ℕ → Condition
reaches pc = condition [] (PointCode pc ∷ Sccp pc ∷ [])

-- an outcome of a service message at the node itself
abbrev pub forwarded_way : Condition → Outcome → List Way
forwarded_way c o = way_if (both c o.condition) (forwarded o.arrival)

-- the ways of a service message: to a point that it reaches, or by what becomes of its title at the node itself
abbrev pub service_ways : Network → ℕ → Condition → List ℕ → back.Way → List Way
service_ways plan node c octets (Direct pc) = way (both c (reaches pc)) (sending pc octets) ∷ []
service_ways plan node c octets (Shut mark) = []
service_ways plan node c octets ByTitle = flat_map (forwarded_way c) (outcomes plan node (point_of plan node) octets)

-- the ways of an outcome
abbrev pub ways_of : Network → ℕ → Condition → Arrival → List Way
ways_of plan node c (Relayed pc octets) = way c (sending pc octets) ∷ []
ways_of plan node c (Ended pc ssn octets) = way c (sending pc octets) ∷ []
ways_of plan node c (Local ssn m) = []
ways_of plan node c (Returned cause marks None) = []
ways_of plan node c (Returned cause marks (Some service)) = service_ways plan node c service.octets service.way
ways_of plan node c (Connection m) = []
ways_of plan node c (Management m) = []
ways_of plan node c (Undecodable fault) = []

-- those of them that some marking allows
abbrev pub possible : List Way → List Way
possible found = filter (λ w. is_possible w.condition) found

abbrev pub possible_ways : Network → ℕ → Outcome → List Way
possible_ways plan node o = if is_possible o.condition then possible (ways_of plan node o.condition o.arrival) else []

-- the ways in which the node can send something because of octets from that origin
unfoldable pub ways : Network → ℕ → ℕ → List ℕ → List Way
ways plan node origin b = flat_map (possible_ways plan node) (outcomes plan node origin b)

-- Under each marking the node sends what a way says whose condition is met, and nothing if no condition is met.
pub record AreWays (plan : Network) (node origin : ℕ) (b : List ℕ) (found : List Way) : Type 0 where
  pub each : (marking : List Mark) → All (λ w. meets marking w.condition ≡ true → sends plan node marking origin b ≡ Some w.sending) found
  pub all : (marking : List Mark) → IsSome (sends plan node marking origin b) → list_any (λ w. meets marking w.condition) found ≡ true

-- What a node forwards of octets of its own under a marking that meets the condition; nothing if no marking meets it.
abbrev pub IsForwarded : Network → ℕ → List ℕ → Condition → Option Sending → Type 0
IsForwarded plan node b c s = MatchBool (is_possible c)
    ((marking : List Mark) × IsMarking marking × (meets marking c ≡ true)
    × (s ≡ forwarded (arrival plan node marking (point_of plan node) b)))
    (s ≡ None)

-- these ways are put at the end, and some marking meets the condition of each
pub record AddsWays (old new more : List Way) : Type 0 where
  pub added : new ≡ old ++ more
  pub possible_each : All (λ w. IsPossible w.condition) more
