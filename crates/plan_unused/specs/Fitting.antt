-- The titles that a relay target makes of those of a class, without those that get too many digits.
use Rattle.std.specs.Prelude.{ℕ, ◌≡◌, ◌+◌, ◌-◌, ◌⊎◌, min, nat_lt, if◌then◌else◌, List, length, Option, Some, None, IsSomeAnd, slice_get}
use Rattle.std.specs.Option.{unwrap_or}
use Rattle.plan_rules.specs.declared.target.Target.{Target}
use Rattle.plan_rules.specs.declared.target.Target.TheVariants.{Relay, Final}
use Rattle.plan_model.specs.declared.hop.Step.TheVariants.{Sent, Overgrown}
use Rattle.plan_model.specs.Network.{Network, node_of}
use Rattle.plan_model.specs.Steps.{rewritten}
use Rattle.plan_classes.specs.Titles.{Titles, IsMember, spot_of}
use Rattle.plan_classes.specs.Classes.{class_targets}
use Rattle.plan_classes.specs.Leading.{brought}

-- those of the titles that have at most 32 digits, none if the shortest has more
abbrev pub at_most_32 : Titles → Option Titles
at_most_32 c = if nat_lt 32 (length c.known + c.least) then None else Some (record c { most = min c.most (32 - length c.known) })

-- what a relay target makes of the titles of a class, of those that get at most 32 digits; none under a destination
abbrev pub fitting : Network → Titles → Target → Option Titles
fitting plan c (Final pc named) = None
fitting plan c (Relay pc strip put selector named) =
    at_most_32 (record c {
      node = node_of plan.nodes pc;
      selector = unwrap_or selector c.selector;
      ssn = unwrap_or named c.ssn;
      known = rewritten strip put c.known;
    })

-- the target at this place of the class's row makes these titles of those of the class
abbrev pub HasFitting : Network → Titles → ℕ → Titles → Type 0
HasFitting plan c place next = IsSomeAnd (slice_get (class_targets plan c) place) (λ t. fitting plan c t ≡ Some next)

-- Each title of the class is sent on as one of the next class, or gets too many digits. Each of the next class is made of one.
pub record IsSentOnAs (plan : Network) (c : Titles) (place : ℕ) (next : Titles) : Type 0 where
  pub each : (digits : List ℕ) → IsMember c digits → ((on : List ℕ) × IsMember next on
      × (brought plan c place digits ≡ Some (Sent (spot_of next on) place))) ⊎ (brought plan c place digits ≡ Some Overgrown)
  pub every : (on : List ℕ) → IsMember next on → (digits : List ℕ) × IsMember c digits
      × (brought plan c place digits ≡ Some (Sent (spot_of next on) place))
