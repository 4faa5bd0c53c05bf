-- the numbers of mixed routes are in range
use Rattle.std.specs.Prelude.{◌≡◌, ◌<◌, List, [], ◌∷◌, length, Option, Some, None, refl}
use Rattle.std.specs.List.{All}
use Rattle.std.proofs.Common.{sym, subst}
use Rattle.std.proofs.lemmas.List.Elements.{All-nil, All-cons}
use Rattle.plan_model.specs.declared.spot.Spot.{Spot}
use Rattle.plan_model.specs.declared.hop.Hop.{Hop}
use Rattle.plan_model.specs.Network.{Network, IsPlan}
use Rattle.plan_model.specs.Next.{next_of}
use Rattle.plan_model.specs.Steps.{step}
use Rattle.plan_model.specs.Routes.{onward}
use Rattle.plan_model.specs.Covered.{Covered}
use Rattle.plan_model.specs.Spots.{IsSpotOf}
use Rattle.plan_model.proofs.Spots.{covered_spot, sent_spot}
use Rattle.plan_mixed.specs.declared.which.Which.{Which}
use Rattle.plan_mixed.specs.declared.which.Which.TheVariants.{Old, New}
use Rattle.plan_mixed.specs.declared.holding.Holding.{Holding}
use Rattle.plan_mixed.specs.Holdings.{chosen, may_hold}
use Rattle.plan_mixed.specs.Mixed.{held}
use Rattle.plan_change.specs.declared.turn.Turn.{Turn}
use Rattle.plan_change.specs.Mixture.{made_under, mixed_under, HaveMarkings, IsInRangeUnder}

-- a spot of one plan is a spot of another with as many nodes
pub other_spot : (old new : Network) (s : Spot) → length old.nodes ≡ length new.nodes → IsSpotOf old s → IsSpotOf new s
other_spot old new s same h = record {
  node = subst (λ n. s.node < n) same h.node;
  selector = h.selector;
  ssn = h.ssn;
  few = h.few;
  halves = h.halves;
  even = h.even;
}

next_in : (may : List Holding) (old new : Network) (s next : Spot) (turn : Turn) → IsPlan old → IsPlan new
    → length old.nodes ≡ length new.nodes → IsSpotOf old s → next_of (made_under may old new turn s) ≡ Some next → IsSpotOf old next
next_in may old new s next turn is also same h = by (chosen (may_hold may s.node) turn.which)
  where
    by : (which : Which) → next_of (step (held old new which) s turn.marking) ≡ Some next → IsSpotOf old next
    by Old e = sent_spot old s next turn.marking is h e
    by New e = other_spot new old next (sym same) (sent_spot new s next turn.marking also (other_spot old new s same h) e)

-- each spot of a mixed route from a spot in range is in range
mixed_spots : (may : List Holding) (old new : Network) (s : Spot) (turns : List Turn) → IsPlan old → IsPlan new
    → length old.nodes ≡ length new.nodes → IsSpotOf old s → All (λ (hop : Hop). IsSpotOf old hop.spot) (mixed_under may old new s turns)
mixed_spots may old new s [] is also same h = All-nil (λ (hop : Hop). IsSpotOf old hop.spot)
mixed_spots may old new s (turn ∷ turns) is also same h =
    All-cons (λ (hop : Hop). IsSpotOf old hop.spot) (record { spot = s; step = made_under may old new turn s })
    (onward (next_of (made_under may old new turn s)) (λ next. mixed_under may old new next turns)) h
    (by (λ next. mixed_spots may old new next turns is also same) (next_of (made_under may old new turn s))
    (λ next e. next_in may old new s next turn is also same h e))
  where
    by : ((next : Spot) → IsSpotOf old next → All (λ (hop : Hop). IsSpotOf old hop.spot) (mixed_under may old new next turns))
        → (o : Option Spot) → ((next : Spot) → o ≡ Some next → IsSpotOf old next)
        → All (λ (hop : Hop). IsSpotOf old hop.spot) (onward o (λ next. mixed_under may old new next turns))
    by later None all = All-nil (λ (hop : Hop). IsSpotOf old hop.spot)
    by later (Some next) all = later next (all next refl)

-- the mixed route of a title that the old plan covers is in range
pub in_range_under : (may : List Holding) (old new : Network) (s : Spot) (turns : List Turn) → IsPlan old → IsPlan new
    → length old.nodes ≡ length new.nodes → Covered old s → HaveMarkings turns → IsInRangeUnder may old new s turns
in_range_under may old new s turns is also same covered marked = record {
  markings = marked;
  spots = mixed_spots may old new s turns is also same (covered_spot old s is covered);
}
