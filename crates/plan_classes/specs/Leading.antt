-- What becomes of the titles of a class when a target is taken.
use Rattle.std.specs.Prelude.{ℕ, ◌≡◌, List, Option, Some, slice_get, IsSomeAnd}
use Rattle.std.specs.Option.{option_map, option_and_then}
use Rattle.sccp_base.specs.declared.mark.Mark.{Mark}
use Rattle.plan_model.specs.declared.hop.Step.{Step}
use Rattle.plan_model.specs.declared.hop.Step.TheVariants.{Sent, Ended, NoRow, Overgrown}
use Rattle.plan_model.specs.Network.{Network}
use Rattle.plan_model.specs.Steps.{led, step}
use Rattle.plan_classes.specs.declared.leads.Image.{Image}
use Rattle.plan_classes.specs.declared.leads.Image.TheVariants.{Next, Ends, NotEquipped, TooLong}
use Rattle.plan_classes.specs.Titles.{Titles, IsMember, IsLongest, spot_of}
use Rattle.plan_classes.specs.Classes.{class_targets, Opens, HasImage}

-- what becomes of a title of the class when the target at this place is taken
abbrev pub brought : Network → Titles → ℕ → List ℕ → Option Step
brought plan c place digits =
    option_and_then (λ node. option_map (λ t. led plan node (spot_of c digits) place t) (slice_get (class_targets plan c) place))
    (slice_get plan.nodes c.node)

-- each title of the class is sent on as one of the next class, and each of the next class is made of one
pub record GoesOnTo (plan : Network) (c : Titles) (place : ℕ) (next : Titles) : Type 0 where
  pub each : (digits : List ℕ) → IsMember c digits → (on : List ℕ) × IsMember next on
      × (brought plan c place digits ≡ Some (Sent (spot_of next on) place))
  pub every : (on : List ℕ) → IsMember next on → (digits : List ℕ) × IsMember c digits
      × (brought plan c place digits ≡ Some (Sent (spot_of next on) place))

-- What an image says of the titles. They go on to the next class, or they all end there. Or the node does not have the subsystem
-- for any of them, or the longest ones get too many digits.
abbrev pub ImageIsExact : Network → Titles → ℕ → Image → Type 0
ImageIsExact plan c place (Next next) = GoesOnTo plan c place next
ImageIsExact plan c place (Ends pc ssn) = (digits : List ℕ) → IsMember c digits → brought plan c place digits ≡ Some (Ended pc ssn place)
ImageIsExact plan c place NotEquipped = (digits : List ℕ) → IsMember c digits → brought plan c place digits ≡ Some (NoRow 4)
ImageIsExact plan c place TooLong = (digits : List ℕ) → IsLongest c digits → brought plan c place digits ≡ Some Overgrown

-- the target leads the class to a next one that has these digits
abbrev pub IsInImage : Network → Titles → ℕ → List ℕ → Type 0
IsInImage plan c place digits = (next : Titles) × HasImage plan c place (Next next) × IsMember next digits

-- the marking leaves the target at this place of the class's row the first open one
abbrev pub OpensClass : Network → Titles → ℕ → List Mark → Type 0
OpensClass plan c place marking = IsSomeAnd (slice_get plan.nodes c.node) (λ node. Opens node c.ssn (class_targets plan c) place marking)

-- that target is what each title's step takes under the marking
abbrev pub Takes : Network → Titles → ℕ → List Mark → Type 0
Takes plan c place marking = (digits : List ℕ) → IsMember c digits
    → brought plan c place digits ≡ Some (step plan (spot_of c digits) marking)
