-- The route of a title while each relay holds one of two plans.
use Rattle.std.specs.Prelude.{ℕ, ◌≡◌, ◌≤◌, ◌⊎◌, List, [], ◌∷◌, length, IsSomeAnd}
use Rattle.std.specs.List.{All}
use Rattle.sccp_base.specs.Marks.{IsMarking}
use Rattle.plan_model.specs.declared.spot.Spot.{Spot}
use Rattle.plan_model.specs.declared.hop.Step.{Step}
use Rattle.plan_model.specs.declared.hop.Hop.{Hop}
use Rattle.plan_model.specs.declared.kind.Kind.{Kind}
use Rattle.plan_model.specs.Network.{Network}
use Rattle.plan_model.specs.Steps.{step}
use Rattle.plan_model.specs.Routes.{route_by}
use Rattle.plan_model.specs.Spots.{IsSpotOf}
use Rattle.plan_model.specs.Covered.{Covered, IsAllowed}
use Rattle.plan_model.specs.Verdicts.{last, MayEnd, HasSpot, EndsBadly}
use Rattle.plan_mixed.specs.declared.holding.Holding.{Holding}
use Rattle.plan_mixed.specs.Holdings.{chosen, may_hold}
use Rattle.plan_mixed.specs.Mixed.{held}
use Rattle.plan_change.specs.declared.turn.Turn.{Turn}
use Rattle.plan_change.specs.declared.mixed_hop.MixedHop.{MixedHop}

-- what a spot's node does by the plan and the marking that it holds, if each relay may hold what is said of it
abbrev pub made_under : List Holding → Network → Network → Turn → Spot → Step
made_under may old new turn spot = step (held old new (chosen (may_hold may spot.node) turn.which)) spot turn.marking

-- the hops from a spot, one for each turn, as long as they are Sent
abbrev pub mixed_under : List Holding → Network → Network → Spot → List Turn → List Hop
mixed_under may old new = route_by (made_under may old new)

-- each hop with the plan that its relay held
abbrev pub tagged_under : List Holding → List Hop → List Turn → List MixedHop
tagged_under may [] turns = []
tagged_under may (hop ∷ hops) [] = []
tagged_under may (hop ∷ hops) (turn ∷ turns) =
    record { which = chosen (may_hold may hop.spot.node) turn.which; hop = hop } ∷ tagged_under may hops turns

-- each turn has an ascending list of marks of real points
abbrev pub HaveMarkings : List Turn → Type 0
HaveMarkings = All (λ turn. IsMarking turn.marking)

-- a mixed route whose numbers are in range, as those of a route in `IsInRange`; both plans have the same nodes
pub record IsInRangeUnder (may : List Holding) (old new : Network) (spot : Spot) (turns : List Turn) : Type 0 where
  pub markings : HaveMarkings turns
  pub spots : All (λ hop. IsSpotOf old hop.spot) (mixed_under may old new spot turns)

-- every cover of both plans that has the spot allows the place
abbrev pub BothAllow : Network → Network → Spot → ℕ → ℕ → Type 0
BothAllow old new spot pc ssn = IsAllowed old spot pc ssn × IsAllowed new spot pc ssn

-- The mixed route of each spot that both plans cover ends as it may within the bound, whatever each relay on it holds of what it may,
-- and whatever it has prohibited.
abbrev pub SafeUnder : List Holding → Network → Network → ℕ → Type 0
SafeUnder may old new bound =
    (spot : Spot) (turns : List Turn) → Covered old spot → Covered new spot → length turns ≡ bound →
    IsSomeAnd (last (mixed_under may old new spot turns)) (MayEnd (BothAllow old new spot))

-- some spot that both plans cover has a mixed route of as many hops as the bound
pub record TightUnder (may : List Holding) (old new : Network) (bound : ℕ) (spot : Spot) (turns : List Turn) : Type 0 where
  pub some : 1 ≤ bound
  pub old_covered : Covered old spot
  pub new_covered : Covered new spot
  pub count : length turns ≡ bound
  pub hops : length (mixed_under may old new spot turns) ≡ bound

-- A mixed route that shows that the plans may not be mixed so. Both covers have the spot, and the route ends as no route of one of
-- them may.
pub record BadUnder (may : List Holding) (old new : Network) (old_cover new_cover : ℕ) (spot : Spot) (turns : List Turn)
    (hops : List MixedHop) (kind : Kind) : Type 0 where
  pub old_covered : HasSpot old old_cover spot
  pub new_covered : HasSpot new new_cover spot
  pub is_route : hops ≡ tagged_under may (mixed_under may old new spot turns) turns
  pub each : length (mixed_under may old new spot turns) ≡ length turns
  pub some : 1 ≤ length turns
  pub few : length turns ≤ 15
  pub ends : EndsBadly old old_cover (mixed_under may old new spot turns) kind
      ⊎ EndsBadly new new_cover (mixed_under may old new spot turns) kind

-- The same while each relay may hold either plan, since nothing is said of any: then a turn says which plan its relay holds.
abbrev pub made : Network → Network → Turn → Spot → Step
made old new turn spot = step (held old new turn.which) spot turn.marking

abbrev pub mixed : Network → Network → Spot → List Turn → List Hop
mixed old new = route_by (made old new)

abbrev pub tagged : List Hop → List Turn → List MixedHop
tagged = tagged_under []

abbrev pub BothSafe : Network → Network → ℕ → Type 0
BothSafe old new bound =
    (spot : Spot) (turns : List Turn) → Covered old spot → Covered new spot → length turns ≡ bound →
    IsSomeAnd (last (mixed old new spot turns)) (MayEnd (BothAllow old new spot))

abbrev pub BothTight : Network → Network → ℕ → Spot → List Turn → Type 0
BothTight = TightUnder []

abbrev pub IsMixedInRange : Network → Network → Spot → List Turn → Type 0
IsMixedInRange = IsInRangeUnder []

abbrev pub BothBad : Network → Network → ℕ → ℕ → Spot → List Turn → List MixedHop → Kind → Type 0
BothBad = BadUnder []
