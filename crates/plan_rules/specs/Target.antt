-- The targets to which a translation leads, and what one may ask of a title (ITU-T Q.714 section 2).
use Rattle.std.specs.Prelude.{ℕ, ◌+◌, ◌%◌, ◌<◌, ◌≤◌, Bool, false, ◌&&◌, ◌==◌, nat_lt, List, [], length, Option, Some, None, IfSome}
use Rattle.std.specs.List.{All}
use Rattle.sccp_base.specs.Selector.{Numbers, IsSelector}
use Rattle.plan_rules.specs.declared.target.Target.{Target}
use Rattle.plan_rules.specs.declared.target.Target.TheVariants.{Relay, Final}

-- the point to which a target leads
abbrev pub point_of : Target → ℕ
point_of (Relay pc strip put selector ssn) = pc
point_of (Final pc ssn) = pc

-- the digits that a target puts in front of a title's
abbrev pub put_of : Target → List ℕ
put_of (Relay pc strip put selector ssn) = put
put_of (Final pc ssn) = []

-- the selector that a target gives a title
abbrev pub selector_of : Target → Option Numbers
selector_of (Relay pc strip put selector ssn) = selector
selector_of (Final pc ssn) = None

-- the subsystem number that a target names
abbrev pub ssn_of : Target → Option ℕ
ssn_of (Relay pc strip put selector ssn) = ssn
ssn_of (Final pc ssn) = ssn

-- a target strips more than this number of digits
abbrev pub strips_more : ℕ → Target → Bool
strips_more digits (Relay pc strip put selector ssn) = nat_lt digits strip
strips_more digits (Final pc ssn) = false

-- A title of kind 2 has no odd number of digits. It could get one if a target's new selector is of kind 2. It could also
-- get one if a target of a row of kind 2 keeps the selector and changes the number of digits by an odd one.
abbrev pub change_makes_odd : ℕ → ℕ → Option Numbers → Bool
change_makes_odd kind change None = kind == 2 && change % 2 == 1
change_makes_odd kind change (Some selector) = selector.kind == 2

-- a target could give a title of kind 2 an odd number of digits, in a row of this kind
abbrev pub target_makes_odd : ℕ → Target → Bool
target_makes_odd kind (Relay pc strip put selector ssn) = change_makes_odd kind (strip + length put) selector
target_makes_odd kind (Final pc ssn) = false

-- the digits put are at most 15 half-octets, and a new selector is a valid one
pub record IsTarget (t : Target) : Type 0 where
  pub put : length (put_of t) ≤ 15
  pub halves : All (λ d. d < 16) (put_of t)
  pub selector : IfSome (selector_of t) IsSelector
