-- Why a relay may have sent a message: the first of the waiting arrivals because of which the plan lets it.
use Rattle.std.specs.Prelude.{◌≡◌, ◌<◌, ℕ, List, [], ◌∷◌, length, map, take, Option, Some, None, slice_get}
use Rattle.std.specs.List.{All}
use Rattle.sccp_base.specs.declared.mark.Mark.{Mark}
use Rattle.sccp_message.specs.declared.message.Message.{Message}
use Rattle.plan_model.specs.Network.{Network}
use Rattle.relay_ways.specs.Explained.{AreConditions, AreShortest, SendsLike, IsHandled}
use Rattle.relay_ways.specs.Ways as relay
use Rattle.relay_ways.specs.declared.explanation.Explanation.{Explanation}
use Rattle.relay_watch.specs.declared.found.Found.{Found}
use Rattle.relay_watch.specs.declared.waiting.Waiting.{Waiting}

-- under no marking the relay at this place sends such a message to that point because of octets from that origin
abbrev pub NeverSends : Network → ℕ → ℕ → List ℕ → ℕ → Message → Type 0
NeverSends plan node origin b to sent = (marking : List Mark) → SendsLike plan node origin b to sent marking → ⊥

-- It does exactly under the markings that meet a condition of these ways, and there is such a marking. They are those of the relay's
-- ways that send such a message, each once and in their order, with its condition in the shortest form. Under each marking that meets
-- the condition of one way, it handles the octets as that way says.
pub record SendsUnder (plan : Network) (node origin : ℕ) (b : List ℕ) (to : ℕ) (sent : Message) (ways : List Explanation) : Type 0 where
  pub conditions : AreConditions plan node origin b to sent (map (λ w. w.condition) ways)
  pub shortest : AreShortest to sent (relay.ways plan node origin b) (map (λ w. w.condition) ways)
  pub some : 0 < length ways
  pub handled : All (IsHandled plan node origin b) ways

-- the waiting arrival is none because of which the relay at this place sends the message
abbrev pub IsNoReason : Network → ℕ → ℕ → Message → Waiting → Type 0
IsNoReason plan node to sent w = w.node ≡ node → NeverSends plan node w.origin w.octets to sent

-- the relay at this place sends the message because of the waiting arrival, in these ways
pub record IsReason (plan : Network) (node to : ℕ) (sent : Message) (w : Waiting) (ways : List Explanation) : Type 0 where
  pub here : w.node ≡ node
  pub under : SendsUnder plan node w.origin w.octets to sent ways

-- the ways that a look at one waiting arrival gives; none if it is no reason
abbrev pub AreReasons : Network → ℕ → ℕ → Message → Waiting → List Explanation → Type 0
AreReasons plan node to sent w [] = IsNoReason plan node to sent w
AreReasons plan node to sent w (x ∷ xs) = IsReason plan node to sent w (x ∷ xs)

-- the first of those that wait because of which it sends the message
pub record IsFirst (plan : Network) (waiting : List Waiting) (node to : ℕ) (sent : Message) (f : Found) : Type 0 where
  pub arrival : Waiting
  pub at : slice_get waiting f.place ≡ Some arrival
  pub numbered : arrival.number ≡ f.by
  pub reason : IsReason plan node to sent arrival f.ways
  pub first : All (IsNoReason plan node to sent) (take f.place waiting)

-- what the search gives: nothing if there is no reason
abbrev pub IsSearched : Network → List Waiting → ℕ → ℕ → Message → Option Found → Type 0
IsSearched plan waiting node to sent None = All (IsNoReason plan node to sent) waiting
IsSearched plan waiting node to sent (Some f) = IsFirst plan waiting node to sent f
