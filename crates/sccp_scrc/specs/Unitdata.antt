-- Connectionless messages with another called address (ITU-T Q.713 section 4), and whether a message can be written.
use Rattle.std.specs.Prelude.{ℕ, ◌≤◌, List, length, Option, Some, None, is_none, if◌then◌else◌}
use Rattle.std.specs.Option.{option_map_or}
use Rattle.sccp_address.specs.declared.address.Address.{Address}
use Rattle.sccp_address.specs.Written.{written}
use Rattle.sccp_layout.specs.declared.parts.JoinFault.{JoinFault}
use Rattle.sccp_layout.specs.Joining.{join_fault}
use Rattle.sccp_layout.specs.Table.{row}
use Rattle.sccp_message.specs.declared.message.Message.{Message}
use Rattle.sccp_message.specs.declared.message.Message.TheVariants.{Udt, Udts, Xudt, Xudts, Ludt, Ludts}
use Rattle.sccp_message.specs.Written.{content, message_octets, parts_from, Writable}

-- the message with another called address and, if it has a hop counter, that counter changed
abbrev pub redirected : Address → (ℕ → ℕ) → Message → Message
redirected a count (Udt class called calling payload) = Udt class a calling payload
redirected a count (Udts cause called calling payload) = Udts cause a calling payload
redirected a count (Xudt class hops called calling payload params) = Xudt class (count hops) a calling payload params
redirected a count (Xudts cause hops called calling payload params) = Xudts cause (count hops) a calling payload params
redirected a count (Ludt class hops called calling payload params) = Ludt class (count hops) a calling payload params
redirected a count (Ludts cause hops called calling payload params) = Ludts cause (count hops) a calling payload params
redirected a count m = m

-- why a message cannot be written
abbrev pub write_fault : Message → Option JoinFault
write_fault m = option_map_or (λ r. join_fault r.layout (parts_from m)) (row (content m).code) None

-- the octets, if the message can be written
abbrev pub octets_of : Message → Option (List ℕ)
octets_of m = if is_none (write_fault m) then Some (message_octets m) else None

-- it can be written with any called address of at most 21 octets, the most that an address with a title of 32 digits takes
abbrev pub Room : Message → Type 0
Room m = (a : Address) → length (written a) ≤ 21 → Writable (redirected a (λ hops. hops) m)
