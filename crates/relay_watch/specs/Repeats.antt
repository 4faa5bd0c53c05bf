-- Arrivals that are the same as earlier ones, as far as it matters for what their relays send because of them.
use Rattle.std.specs.Prelude.{◌≡◌, ◌≤◌, ℕ, true, if◌then◌else◌, List, Option, Some, IsSomeAnd, slice_get}
use Rattle.sccp_message.specs.declared.message.Message.{Message}
use Rattle.plan_model.specs.Network.{Network}
use Rattle.relay_ways.specs.WhyNot.{rank}
use Rattle.relay_watch.specs.Whys.{has_data, near_of, nearer}
use Rattle.relay_watch.specs.declared.near.Near.{Near}
use Rattle.relay_watch.specs.declared.waiting.Waiting.{Waiting}

-- at one relay, from one point, with the same octets and data
pub record IsSame (one other : Waiting) : Type 0 where
  pub here : one.node ≡ other.node
  pub from : one.origin ≡ other.origin
  pub octets_are : one.octets ≡ other.octets
  pub data_are : one.payload ≡ other.payload

-- one of the earlier arrivals is the same as this one
pub record IsRepeat (earlier : List Waiting) (w : Waiting) : Type 0 where
  pub place : ℕ
  pub one : Waiting
  pub at : slice_get earlier place ≡ Some one
  pub same : IsSame one w

-- the nearer one of what was found and of an arrival with the message's data
abbrev pub with_near : Network → ℕ → ℕ → Message → Option Near → Waiting → Option Near
with_near plan node to sent best w = if has_data node sent w then nearer best (near_of plan node to sent w) else best

-- what was found passes as many tests as an arrival with the message's data, or more
abbrev pub IsReached : Network → ℕ → ℕ → Message → Option Near → Waiting → Type 0
IsReached plan node to sent best w = has_data node sent w ≡ true
    → IsSomeAnd best (λ b. rank (near_of plan node to sent w).reason ≤ rank b.reason)
