-- The links that messages were put on so far, and the one of them that is to deliver next.
use Rattle.std.specs.Prelude.{ℕ, Bool, true, false, if◌then◌else◌, List, [], ◌∷◌, ◌++◌, map, Option, Some, None}
use Rattle.sccp_message.specs.declared.message.Message.{Message}
use Rattle.sccp_couple.specs.Events.{Answer}
use Rattle.sccp_couple.specs.Coupling.{coupled}
use Rattle.couple_chain.specs.declared.happening.Happening.{Happening}
use Rattle.couple_chain.specs.declared.happening.Happening.TheVariants.{Offers, Delivers}
use Rattle.couple_chain.specs.World.{Network, World, is_node, start, event_at, happens}
use Rattle.chain_world.specs.Running.{lesser}

-- the links on which a relay puts what it sends
abbrev pub sent_links : ℕ → List Answer → List (ℕ × ℕ)
sent_links node sent = map (λ (s : Answer). (node, s.to)) sent

-- the links on which a delivery puts messages, if the link that delivers holds these: those of the relay that takes the first
-- of them
abbrev pub links_of : Network → World → ℕ → ℕ → List Message → List (ℕ × ℕ)
links_of network w from to [] = []
links_of network w from to (message ∷ rest) =
    if is_node network to then sent_links to (coupled (w.moments to).sections (event_at network to from message)).sent else []

-- the links on which one happening puts messages
abbrev pub links_by : Network → World → Happening → List (ℕ × ℕ)
links_by network w (Offers from to message) = (from, to) ∷ []
links_by network w (Delivers from to) = links_of network w from to (w.waiting from to)

-- all links on which a history puts messages, beginning with a world
abbrev pub links_from : Network → World → List Happening → List (ℕ × ℕ)
links_from network w [] = []
links_from network w (h ∷ history) = links_by network w h ++ links_from network (happens network w h) history

-- there is a message among these
abbrev pub is_some_message : List Message → Bool
is_some_message [] = false
is_some_message (message ∷ rest) = true

-- the link, which is given by its two points, holds a message
abbrev pub holds : World → ℕ × ℕ → Bool
holds w l = is_some_message (w.waiting l.0 l.1)

-- of these links that hold a message, the least by its first point and then its second
abbrev pub least_in : World → List (ℕ × ℕ) → Option (ℕ × ℕ)
least_in w [] = None
least_in w (l ∷ links) = if holds w l then Some (lesser (least_in w links) l.0 l.1) else least_in w links

-- the link that is to deliver next: the least one that holds a message
abbrev pub next_link : Network → World → List Happening → Option (ℕ × ℕ)
next_link network w history = least_in w (links_from network start history)
