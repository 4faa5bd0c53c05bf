-- What the chunks of a whole capture give, said without what is kept of them.
use Rattle.std.specs.Prelude.{◌≡◌, ℕ, ◌<◌, ◌^◌, false, List, [], ◌∷◌, ◌++◌, All, Contains, Some, map, flat_map}
use Rattle.user_messages.specs.declared.given.Given.{Given}
use Rattle.user_messages.specs.declared.given.Given.TheVariants.{Whole, Repeated, Waits}
use Rattle.user_messages.specs.declared.place.Place.{Place}
use Rattle.user_messages.specs.UserMessages.{IsUserMessage, message_of}
use Rattle.user_messages.specs.Gathering.{Received, Gathered, chunks_of, has_key, nothing, took}

-- what is kept after the chunks of a list
unfoldable pub kept_after : Gathered → List Received → Gathered
kept_after g [] = g
kept_after g (c ∷ cs) = kept_after (took g c).0 cs

-- what each of them gives
unfoldable pub all_given : Gathered → List Received → List Given
all_given g [] = []
all_given g (c ∷ cs) = (took g c).1 ∷ all_given (took g c).0 cs

-- what a chunk gives after those of a list
abbrev pub last_given : List Received → Received → Given
last_given cs c = (took (kept_after nothing cs) c).1

-- the messages among what was given
abbrev pub message_in : Given → List (List ℕ)
message_in (Whole octets) = octets ∷ []
message_in Repeated = []
message_in (Waits place) = []

abbrev pub messages_of : List Received → List (List ℕ)
messages_of cs = flat_map message_in (all_given nothing cs)

-- some of these chunks, the last one among them, are a user message with this data
pub record IsMadeOf (cs : List Received) (c : Received) (octets : List ℕ) : Type 0 where
  pub run : List Received
  pub arrived : All (Contains (cs ++ c ∷ [])) run
  pub last_in : Contains run c
  pub whole : IsUserMessage (chunks_of run)
  pub octets_are : octets ≡ message_of (chunks_of run)

-- ---- what a law asks of a capture

-- no two chunks have one association and one number
abbrev pub NoneTwice : List Received → Type 0
NoneTwice [] = Unit {0}
NoneTwice (c ∷ cs) = (has_key cs c ≡ false) × NoneTwice cs

-- no chunk was given up
abbrev pub NoneGivenUp : List Received → Type 0
NoneGivenUp cs = (place : Place) → Contains (all_given nothing cs) (Waits (Some place)) → ⊥

-- the numbers are of 32 bits
abbrev pub HaveNumbers : List Received → Type 0
HaveNumbers cs = All (λ c. c.chunk.tsn < 2 ^ 32) cs

-- the lists of chunks of the messages that were given, each a user message of chunks that arrived; no chunk is in two
pub record AreApart (cs : List Received) : Type 0 where
  pub runs : List (List Received)
  pub given : messages_of cs ≡ map (λ run. message_of (chunks_of run)) runs
  pub whole : All (λ run. IsUserMessage (chunks_of run)) runs
  pub arrived : All (Contains cs) (flat_map (λ run. run) runs)
  pub once : NoneTwice (flat_map (λ run. run) runs)
