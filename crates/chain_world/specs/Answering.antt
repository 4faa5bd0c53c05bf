-- What a relay sends, as octets on its links.
use Rattle.std.specs.Prelude.{ℕ, ◌==◌, if◌then◌else◌, List, [], ◌∷◌, ◌++◌, filter_map, Option, Some, None}
use Rattle.sccp_manage.specs.declared.sent.Sent.{Sent}
use Rattle.chain_world.specs.declared.answering.Answers.{Answers}
use Rattle.chain_world.specs.declared.answering.Answers.TheVariants as answers
use Rattle.chain_world.specs.declared.answering.Placed.{Placed}
use Rattle.chain_world.specs.declared.answering.Placed.TheVariants as placed

-- the octets of one message, if it goes to this point
abbrev pub octets_if : ℕ → Sent → Option (List ℕ)
octets_if point sent = if sent.to == point then Some sent.octets else None

-- the octets of all messages that go to this point, in order
abbrev pub octets_to : ℕ → List Sent → List (List ℕ)
octets_to point sent = filter_map (octets_if point) sent

-- what was put on each link so far, followed on the links of the sender by what it sends there
abbrev pub with_octets : ℕ → List Sent → (ℕ → ℕ → List (List ℕ)) → ℕ → ℕ → List (List ℕ)
with_octets from sent links = λ a b. if a == from then links a b ++ octets_to b sent else links a b

-- what a relay sends as a list, in the order of sending
abbrev pub in_order : Answers → List Sent
in_order answers.Nothing = []
in_order (answers.One only) = only ∷ []
in_order (answers.Two first second) = first ∷ second ∷ []

-- the points on whose links it was put, in the same order
abbrev pub places : Placed → List ℕ
places placed.Nothing = []
places (placed.One only) = only ∷ []
places (placed.Two first second) = first ∷ second ∷ []
