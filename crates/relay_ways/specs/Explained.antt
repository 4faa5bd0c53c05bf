-- Under which markings a relay sends a message because of another one.
use Rattle.std.specs.Prelude.{◌≡◌, ◌⊎◌, ◌++◌, ◌∷◌, [], true, ℕ, List, map, IsTrue, ◌↔◌, IsSomeAnd, Ok}
use Rattle.std.specs.List.{All, list_any}
use Rattle.sccp_base.specs.declared.mark.Mark.{Mark}
use Rattle.sccp_message.specs.declared.message.Message.{Message}
use Rattle.sccp_message.specs.Reading.{reading}
use Rattle.plan_model.specs.Network.{Network}
use Rattle.relay_ways.specs.Alike.{IsAlike}
use Rattle.relay_ways.specs.Conditions.{meets, IsPossible}
use Rattle.relay_ways.specs.Handling.{Handles, HasCondition}
use Rattle.relay_ways.specs.Sends.{sends}
use Rattle.relay_ways.specs.Settled.{settled}
use Rattle.relay_ways.specs.Ways.{ways}
use Rattle.relay_ways.specs.declared.condition.Condition.{Condition}
use Rattle.relay_ways.specs.declared.explanation.Explanation.{Explanation}
use Rattle.relay_ways.specs.declared.way.Sending.{Sending}
use Rattle.relay_ways.specs.declared.way.Way.{Way}

-- a message like this one goes to that point
abbrev pub IsSendingOf : ℕ → Message → Sending → Type 0
IsSendingOf to sent s = (s.to ≡ to) × ((m : Message) × (reading s.octets ≡ Ok m) × IsAlike to m sent)

-- under this marking the node sends a message like this one to that point, because of octets from that origin
abbrev pub SendsLike : Network → ℕ → ℕ → List ℕ → ℕ → Message → List Mark → Type 0
SendsLike plan node origin b to sent marking = IsSomeAnd (sends plan node marking origin b) (IsSendingOf to sent)

-- The conditions under which it does: it does exactly under the markings that meet one of them, and each is met by some marking.
pub record AreConditions (plan : Network) (node origin : ℕ) (b : List ℕ) (to : ℕ) (sent : Message) (conditions : List Condition)
    : Type 0 where
  pub exact : (marking : List Mark) → IsTrue (list_any (meets marking) conditions) ↔ SendsLike plan node origin b to sent marking
  pub possible : All IsPossible conditions

-- those of the ways that send a message like this one to that point, each once and in the order of the ways
abbrev pub AreThose : ℕ → Message → List Way → List Way → Type 0
AreThose to sent [] those = those ≡ []
AreThose to sent (w ∷ ws) those =
    ((others : List Way) × IsSendingOf to sent w.sending × (those ≡ w ∷ others) × AreThose to sent ws others)
    ⊎ ((IsSendingOf to sent w.sending → ⊥) × AreThose to sent ws those)

-- their conditions, each in its shortest form
pub record AreShortest (to : ℕ) (sent : Message) (found : List Way) (conditions : List Condition) : Type 0 where
  pub those : List Way
  pub are : AreThose to sent found those
  pub shortest : conditions ≡ map (λ w. settled w.condition) those

-- a way is put at the end if it sends a message like this one to that point
abbrev pub Keeps : ℕ → Message → List Way → Way → List Way → Type 0
Keeps to sent old w new = (IsSendingOf to sent w.sending × (new ≡ old ++ w ∷ [])) ⊎ ((IsSendingOf to sent w.sending → ⊥) × (new ≡ old))

-- Under each marking that meets the explanation's condition, the node handles the octets as it says.
abbrev pub IsHandled : Network → ℕ → ℕ → List ℕ → Explanation → Type 0
IsHandled plan node origin b x = (marking : List Mark) → meets marking x.condition ≡ true → Handles plan node marking origin b x.handling

-- what is told of a way: the shortest form of its condition; and if the way is one of the octets, they are so handled
pub record Tells (plan : Network) (node origin : ℕ) (b : List ℕ) (w : Way) (x : Explanation) : Type 0 where
  pub shortest : x.condition ≡ settled w.condition
  pub handled : HasCondition w.condition (ways plan node origin b) → IsHandled plan node origin b x

-- what is given of a way is put at the end
pub record AddsTold (plan : Network) (node origin : ℕ) (b : List ℕ) (w : Way) (old new : List Explanation) : Type 0 where
  pub explanation : Explanation
  pub tells : Tells plan node origin b w explanation
  pub added : new ≡ old ++ explanation ∷ []
