-- The called address, the hop counter and the data of a message, whatever its type (ITU-T Q.713 section 4).
-- Only the six connectionless types have an address, and four of them a hop counter.
use Rattle.std.specs.Prelude.{ℕ, Bool, List, Option, Some, None, is_some}
use Rattle.sccp_address.specs.declared.address.Address.{Address}
use Rattle.sccp_message.specs.declared.message.Message.{Message}
use Rattle.sccp_message.specs.declared.message.Message.TheVariants.{Udt, Udts, Xudt, Xudts, Ludt, Ludts}
use Rattle.sccp_message.specs.Written.{content}

abbrev pub called_of : Message → Option Address
called_of (Udt class called calling payload) = Some called
called_of (Udts cause called calling payload) = Some called
called_of (Xudt class hops called calling payload params) = Some called
called_of (Xudts cause hops called calling payload params) = Some called
called_of (Ludt class hops called calling payload params) = Some called
called_of (Ludts cause hops called calling payload params) = Some called
called_of m = None

-- the hop counter (3.18), which UDT and UDTS do not have
abbrev pub hops_of : Message → Option ℕ
hops_of (Xudt class hops called calling payload params) = Some hops
hops_of (Xudts cause hops called calling payload params) = Some hops
hops_of (Ludt class hops called calling payload params) = Some hops
hops_of (Ludts cause hops called calling payload params) = Some hops
hops_of m = None

-- the data (3.16), also of the connection-oriented types that have any
abbrev pub payload_of : Message → Option (List ℕ)
payload_of m = (content m).payload

abbrev pub is_connectionless : Message → Bool
is_connectionless m = is_some (called_of m)
