-- A title of a class with a route, as it is carried back to the start of a cover.
use Rattle.std.specs.Prelude.{ℕ, ◌≡◌, ◌+◌, ◌∷◌, length}
use Rattle.plan_model.specs.declared.hop.Hop.{Hop}
use Rattle.plan_model.specs.Network.{Network}
use Rattle.plan_model.specs.Routes.{route}
use Rattle.plan_classes.specs.declared.leads.Image.TheVariants.{Next}
use Rattle.plan_classes.specs.Titles.{Titles, IsMember, spot_of}
use Rattle.plan_classes.specs.Classes.{HasImage}
use Rattle.plan_verify.specs.declared.trace.Trace.{Trace}
use Rattle.plan_verify.specs.Ends.{IsBadRoute}

-- a title of the class whose route is bad after this number of hops
pub record IsTrace (plan : Network) (c : Titles) (depth : ℕ) (t : Trace) : Type 0 where
  pub member : IsMember c t.digits
  pub bad : IsBadRoute plan c.cover depth (spot_of c t.digits) t.markings

-- a title of the class whose route has this number of hops, one under each marking
pub record IsWay (plan : Network) (c : Titles) (hops : ℕ) (t : Trace) : Type 0 where
  pub member : IsMember c t.digits
  pub count : length t.markings ≡ hops
  pub each : length (route plan (spot_of c t.digits) t.markings) ≡ hops

-- a title of the class which the target sends on as the other trace's title: after the first hop its route is that one's
pub record GoesBefore (plan : Network) (c : Titles) (place : ℕ) (behind t : Trace) : Type 0 where
  pub member : IsMember c t.digits
  pub more : length t.markings ≡ length behind.markings + 1
  pub follows : (next : Titles) → HasImage plan c place (Next next)
      → (hop : Hop) × (route plan (spot_of c t.digits) t.markings ≡ hop ∷ route plan (spot_of next behind.digits) behind.markings)
