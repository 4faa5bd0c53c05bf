-- a worked run: a connection with near point 1 and far point 2, three DT1, and a release
use Rattle.std.specs.Prelude.{ℕ, ◌≡◌, Bool, true, false, List, [], ◌∷◌, None, map, refl}
use Rattle.sccp_message.specs.declared.message.Message.{Message}
use Rattle.sccp_message.specs.declared.message.Message.TheVariants as messages
use Rattle.sccp_address.specs.declared.address.Address.{Address}
use Rattle.sccp_address.specs.declared.address.Title.TheVariants.{Absent}
use Rattle.sccp_couple.specs.declared.way.Way.TheVariants.{Onward}
use Rattle.sccp_couple.specs.Events.{Event, Piece}
use Rattle.sccp_couple.specs.Runs.{after, Pair}

abbrev nowhere : Address
nowhere = record { national = false; by_ssn = false; pc = None; ssn = None; title = Absent }

abbrev event : ℕ → Message → Event
event origin message = record { origin = origin; message = message; way = Onward 2 nowhere [] }

abbrev piece : Bool → ℕ → Piece
piece more octet = record { more = more; payload = octet ∷ [] }

abbrev connection : List Event
connection =
    event 1 (messages.Cr 1 2 nowhere [])
    ∷ event 2 (messages.Cc 2 34 2 [])
    ∷ event 1 (messages.Dt1 1 true (65 ∷ []))
    ∷ event 1 (messages.Dt1 1 true (66 ∷ []))
    ∷ event 2 (messages.Dt1 2 false (67 ∷ []))
    ∷ event 1 (messages.Rlsd 1 1 0 [])
    ∷ event 1 (messages.Dt1 1 true (68 ∷ []))
    ∷ []

pub forth : map (λ (p : Pair). p.sent_far) (after connection).pairs ≡ (piece true 65 ∷ piece true 66 ∷ []) ∷ []
forth = refl

pub back : map (λ (p : Pair). p.passed_far) (after connection).pairs ≡ (piece false 67 ∷ []) ∷ []
back = refl

pub over : map (λ (p : Pair). p.stands) (after connection).pairs ≡ false ∷ []
over = refl
