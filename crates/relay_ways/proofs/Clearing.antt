-- An arrival depends on the marking only by its step, its marks, and whether its way back is shut.
use Rattle.std.proofs.Common.{◌≡◌, ℕ, Bool, true, false, cond, List, [], Option, Some, None, refl, ap, not, ◌&&◌}
use Rattle.std.specs.Prelude.{◌==◌, is_some, option_map, if◌then◌else◌, unwrap_or}
use Rattle.std.specs.Option.{option_map_or, option_and_then}
use Rattle.sccp_base.specs.Marks.{holds}
use Rattle.sccp_base.specs.declared.mark.Mark.{Mark}
use Rattle.sccp_base.specs.declared.mark.Mark.TheVariants.{PointCode, Sccp}
use Rattle.sccp_address.specs.declared.address.Address.{Address}
use Rattle.sccp_message.specs.declared.message.Message.{Message}
use Rattle.sccp_message.specs.Unitdata.{called_of}
use Rattle.plan_model.specs.declared.hop.Step.{Step}
use Rattle.plan_model.specs.declared.hop.Step.TheVariants as steps
use Rattle.plan_model.specs.Network.{Network}
use Rattle.sccp_scrc.specs.Arriving.{after_step, leaving, point_of}
use Rattle.sccp_scrc.specs.Returning.{way_to, way_back, asks_for_return, service_message, service_by, returned}
use Rattle.sccp_scrc.specs.Rewriting.{rewritten, spot_of}
use Rattle.sccp_scrc.specs.Unitdata.{octets_of}
use Rattle.sccp_scrc.specs.declared.arrival.Arrival.{Arrival}
use Rattle.sccp_scrc.specs.declared.arrival.Arrival.TheVariants.{Relayed, Ended, Local, Returned}
use Rattle.sccp_scrc.specs.declared.service.Service.{Service}
use Rattle.sccp_scrc.specs.declared.way.Way.{Way}
use Rattle.sccp_scrc.specs.declared.way.Way.TheVariants.{Direct, Shut, ByTitle}
use Rattle.relay_ways.specs.Outcomes.{cleared_way, cleared_service, cleared}
use Rattle.relay_ways.specs.Turns.{without_marks}

cleared_to : (M : List Mark) (pc : ℕ) → cleared_way (way_to M pc) ≡ Direct pc
cleared_to M pc = by (holds M (PointCode pc)) (holds M (Sccp pc)) where
  by : (p q : Bool) → cleared_way (option_map_or Shut (cond p (Some (PointCode pc)) (cond q (Some (Sccp pc)) None)) (Direct pc)) ≡ Direct pc
  by true q = refl
  by false true = refl
  by false false = refl

cleared_back : (M : List Mark) (origin : ℕ) (a : Address) → cleared_way (way_back M origin a) ≡ way_back [] origin a
cleared_back M origin a = by (not a.by_ssn && is_some (spot_of 0 a)) where
  by : (b : Bool) → cleared_way (if b then ByTitle else way_to M (unwrap_or a.pc origin))
      ≡ (if b then ByTitle else way_to [] (unwrap_or a.pc origin))
  by true = refl
  by false = cleared_to M (unwrap_or a.pc origin)

cleared_toward : (M : List Mark) (origin : ℕ) (o : Option Address)
    → cleared_way (option_map_or (way_back M origin) o (Direct origin)) ≡ option_map_or (way_back [] origin) o (Direct origin)
cleared_toward M origin None = refl
cleared_toward M origin (Some a) = cleared_back M origin a

service : List ℕ → Way → Service
service octets way = record { octets = octets; way = way }

cleared_by : (M : List Mark) (origin : ℕ) (m : Message) → option_map cleared_service (service_by M origin m) ≡ service_by [] origin m
cleared_by M origin m = by (octets_of m) where
  by : (o : Option (List ℕ)) → option_map cleared_service
      (option_map (λ octets. record { octets = octets; way = option_map_or (way_back M origin) (called_of m) (Direct origin) }) o)
      ≡ option_map (λ octets. record { octets = octets; way = option_map_or (way_back [] origin) (called_of m) (Direct origin) }) o
  by None = refl
  by (Some octets) = ap (λ way. Some (record { octets = octets; way = way })) (cleared_toward M origin (called_of m))

cleared_if : (M : List Mark) (origin : ℕ) (asks : Bool) (made : Option Message)
    → option_map cleared_service (if asks then option_and_then (service_by M origin) made else None)
    ≡ (if asks then option_and_then (service_by [] origin) made else None)
cleared_if M origin false made = refl
cleared_if M origin true None = refl
cleared_if M origin true (Some m) = cleared_by M origin m

pub cleared_returned : (M : List Mark) (origin : ℕ) (m : Message) (cause : ℕ) (marks : List Mark)
    → cleared (returned M origin m cause marks) ≡ returned [] origin m cause []
cleared_returned M origin m cause marks = ap (Returned cause []) (cleared_if M origin (asks_for_return m) (service_message cause m))

cleared_leaving : (M : List Mark) (origin : ℕ) (m : Message) (as_octets : List ℕ → Arrival) (o : Option (List ℕ))
    → ((octets : List ℕ) → cleared (as_octets octets) ≡ as_octets octets)
    → cleared (leaving M origin m as_octets o) ≡ leaving [] origin m as_octets o
cleared_leaving M origin m as_octets (Some octets) same = same octets
cleared_leaving M origin m as_octets None same = cleared_returned M origin m 9 []

-- what a step makes of a message, by the step without its marks
pub cleared_step : (plan : Network) (node : ℕ) (M : List Mark) (origin : ℕ) (m : Message) (a : Address) (s : Step)
    → cleared (after_step plan node M origin m a s) ≡ after_step plan node [] origin m a (without_marks s)
cleared_step plan node M origin m a (steps.Sent next target) =
    cleared_leaving M origin m (Relayed (point_of plan next.node)) (octets_of (rewritten a (steps.Sent next target) m)) (λ octets. refl)
cleared_step plan node M origin m a (steps.Ended pc ssn target) = by (pc == point_of plan node) where
  by : (own : Bool) → cleared (if own then Local ssn (rewritten a (steps.Ended pc ssn target) m)
      else leaving M origin m (Ended pc ssn) (octets_of (rewritten a (steps.Ended pc ssn target) m)))
      ≡ (if own then Local ssn (rewritten a (steps.Ended pc ssn target) m)
      else leaving [] origin m (Ended pc ssn) (octets_of (rewritten a (steps.Ended pc ssn target) m)))
  by true = refl
  by false = cleared_leaving M origin m (Ended pc ssn) (octets_of (rewritten a (steps.Ended pc ssn target) m)) (λ octets. refl)
cleared_step plan node M origin m a (steps.Blocked cause marks) = cleared_returned M origin m cause marks
cleared_step plan node M origin m a (steps.NoRow cause) = cleared_returned M origin m cause []
cleared_step plan node M origin m a steps.Overgrown = cleared_returned M origin m 9 []
