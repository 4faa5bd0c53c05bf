-- What happens at nodes, worked out.
use Rattle.std.specs.Prelude.{◌≡◌, ℕ, List, [], ◌∷◌, Some, None, refl}
use Rattle.sccp_base.specs.declared.mark.Mark.{Mark}
use Rattle.sccp_address.specs.Reading.{address_of}
use Rattle.sccp_layout.specs.Splitting.{parts_by}
use Rattle.sccp_message.specs.declared.message.Message.{Message}
use Rattle.sccp_message.specs.Reading.{message_in}
use Rattle.sccp_manage.specs.declared.event.Event.TheVariants.{Knock}
use Rattle.plan_model.specs.Network.{Network}
use Rattle.relay_net.specs.declared.end.End.TheVariants.{Local, Returned}
use Rattle.relay_net.specs.declared.happening.Happening.{Happening}
use Rattle.relay_net.specs.declared.happening.Happening.TheVariants.{Managed, Delivered}
use Rattle.relay_net.specs.States.{State, happened, applied}
use Rattle.relay_net.specs.Batches.{due, due_after, incoming}

-- what happens at one node leaves the others, and at a place that no node has nothing happens
at_the_second : (plan : Network) (a b c : State) (what : Happening)
    → (applied plan (a ∷ b ∷ c ∷ []) 1 what).states ≡ a ∷ (happened plan 1 b what).state ∷ c ∷ []
at_the_second plan a b c what = refl

at_none : (plan : Network) (a b : State) (what : Happening) → (applied plan (a ∷ b ∷ []) 2 what).states ≡ a ∷ b ∷ []
at_none plan a b what = refl

-- a message is delivered at its last node, which is the entry node if it went no further
delivered_last : (b : List ℕ) (m : Message) → due_after (incoming 2 77 b) (2 ∷ 5 ∷ []) (Local 8 m) ≡ Some (due 5 (Delivered m))
delivered_last b m = refl

-- a UDT that routes on subsystem number 8, from 6, with one octet of data
abbrev udt : List ℕ
udt = 0x09 ∷ 0x00 ∷ 0x03 ∷ 0x05 ∷ 0x07 ∷ 0x02 ∷ 0x42 ∷ 0x08 ∷ 0x02 ∷ 0x42 ∷ 0x06 ∷ 0x01 ∷ 0xAA ∷ []

-- The node at which the message arrived informs the origin; for another cause it does not.
told_by_the_entry : (marks : List Mark) → due_after (incoming 2 77 udt) (2 ∷ []) (Returned 3 marks) ≡ Some (due 2 (Managed (Knock 77 8)))
unfolding message_in parts_by address_of
told_by_the_entry marks = refl

not_told : (marks : List Mark) → due_after (incoming 2 77 udt) (2 ∷ []) (Returned 4 marks) ≡ None
not_told marks = refl
