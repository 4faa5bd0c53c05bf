-- A worked load: the first message of the number 0.
use Rattle.std.specs.Prelude.{◌≡◌, [], ◌∷◌, refl}
use Rattle.std.specs.Fmt.{digits}
use Rattle.sccp_address.specs.Reading.{address_of}
use Rattle.sccp_layout.specs.Splitting.{parts_by}
use Rattle.sccp_message.specs.Reading.{message_in}
use Rattle.relay_net.specs.Journeys.{journey}
use Rattle.relay_net.specs.States.{first_states, markings_of}
use Rattle.made_load.specs.Draws.{drawn}
use Rattle.made_load.specs.Draws as draws
use Rattle.made_load.specs.Loads.{load_counts, no_counts}
use Rattle.made_load.specs.Messages.{made_octets, origin}
use Rattle.made_load.specs.Relays.{load_plan}

none_sent : load_counts 0 0 ≡ no_counts
unfolding load_counts load_plan digits
none_sent = refl

first_drawn : drawn 0 ≡ 15470
first_drawn = refl

first_digit : draws.digits 1 0 ≡ 0 ∷ []
first_digit = refl

first_way : (journey (load_plan 0) (markings_of (first_states (load_plan 0))) 0 origin (made_octets 0 0)).path ≡ 0 ∷ 1 ∷ 3 ∷ 4 ∷ 6 ∷ 7 ∷ []
unfolding load_plan made_octets digits address_of parts_by message_in
first_way = refl

first_counts : load_counts 0 1 ≡ record { messages = 1; ended = 1; returned = 0; translations = 6 }
unfolding load_counts load_plan made_octets digits address_of parts_by message_in
first_counts = refl
