-- A checked plan, as contracts see it, and what every one keeps.
use Rattle.std.specs.Prelude.{ℕ, ◌≤◌}
use Rattle.plan_model.specs.Network.{Network, IsPlan}
use Rattle.plan_model.specs.Verdicts.{Safe, Tight}
use Rattle.plan_model.specs.Spots.{IsInRange}
use Rattle.plan_check.specs.declared.longest.Longest.{Longest}

pub record Verified : Type 0 where
  pub plan : Network
  pub bound : ℕ
  pub longest : Longest

abbrev pub verified : Network → ℕ → Longest → Verified
verified plan bound longest = record { plan = plan; bound = bound; longest = longest }

-- the plan is safe for the bound, which is from 1 to 14, and the longest route has as many hops and is in range
pub record IsVerified (v : Verified) : Type 0 where
  pub plan : IsPlan v.plan
  pub some : 1 ≤ v.bound
  pub few : v.bound ≤ 14
  pub safe : Safe v.plan v.bound
  pub tight : Tight v.plan v.bound v.longest.spot v.longest.markings
  pub range : IsInRange v.plan v.longest.spot v.longest.markings
