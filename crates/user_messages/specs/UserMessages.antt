-- Which lists of DATA chunks are a whole user message (RFC 9260, section 6.9).
use Rattle.std.specs.Prelude.{◌≡◌, ℕ, true, List, [], ◌∷◌}
use Rattle.std.specs.List.{flat_map}
use Rattle.packet_layers.specs.Values.{DataChunk}
use Rattle.user_messages.specs.Chunks.{goes_on}

-- each goes on with the one before
abbrev pub IsInStep : List DataChunk → Type 0
IsInStep [] = Unit {0}
IsInStep (a ∷ []) = Unit {0}
IsInStep (a ∷ b ∷ cs) = (goes_on a b ≡ true) × IsInStep (b ∷ cs)

-- the first chunk begins a user message
abbrev pub Begins : List DataChunk → Type 0
Begins [] = ⊥
Begins (c ∷ cs) = c.begins ≡ true

-- the last chunk ends one
abbrev pub Ends : List DataChunk → Type 0
Ends [] = ⊥
Ends (c ∷ []) = c.ends ≡ true
Ends (c ∷ d ∷ cs) = Ends (d ∷ cs)

-- the chunks of one whole user message
pub record IsUserMessage (chunks : List DataChunk) : Type 0 where
  pub begins : Begins chunks
  pub ends : Ends chunks
  pub in_step : IsInStep chunks

-- its data
abbrev pub message_of : List DataChunk → List ℕ
message_of chunks = flat_map (λ c. c.payload) chunks
