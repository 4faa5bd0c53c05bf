-- What an end offers: the message that its octets read as.
use Rattle.std.specs.Prelude.{ℕ, ◌==◌, Bool, true, false, not, ◌&&◌, Option, Some, None, is_some, option_and_then, unwrap_or, Result, Ok}
use Rattle.std.specs.Prelude.{Err}
use Rattle.sccp_message.specs.declared.message.Message.{Message}
use Rattle.sccp_message.specs.declared.fault.DecodeFault.{DecodeFault}
use Rattle.sccp_message.specs.Reading.{reading}
use Rattle.sccp_message.specs.Unitdata.{called_of}
use Rattle.sccp_scrc.specs.Unitdata.{octets_of}
use Rattle.couple_chain.specs.declared.happening.Happening.{Happening}
use Rattle.couple_chain.specs.declared.happening.Happening.TheVariants.{Offers, Delivers}
use Rattle.couple_chain.specs.declared.offer_fault.OfferFault.{OfferFault}
use Rattle.couple_chain.specs.World.{Network, World, is_node, names, name_of, uses_again, fault_by, offer_fault}
use Rattle.couple_chain.specs.declared.offer_fault.OfferFault.TheVariants as faults

-- the message that octets read as, if they do
abbrev pub if_read : Result Message DecodeFault → Option Message
if_read (Ok message) = Some message
if_read (Err fault) = None

-- A message as it reads after it was written, if it can be written and read. It is the message itself, unless its address
-- cannot be expressed in octets. An example is a title with global title indicator 2 and an odd number of digits.
abbrev pub read_again : Message → Option Message
read_again message = option_and_then (λ octets. if_read (reading octets)) (octets_of message)

-- the message that an accepted offer puts on its link
abbrev pub as_read : Message → Message
as_read message = unwrap_or (read_again message) message

-- The first test that an offer fails, by the message that was read again. Without such a message the last test fails, if none
-- before it does.
abbrev pub fault_of_read : Network → World → ℕ → ℕ → Message → Option Message → Option OfferFault
fault_of_read network w from to message (Some read) = offer_fault network w from to read
fault_of_read network w from to message None =
    fault_by (is_node network from) (not (is_node network to)) (is_some (called_of message))
    (uses_again network w from (name_of message)) true

-- the fault for which an offer of this message is refused, or nothing if it is accepted
abbrev pub fault_of : Network → World → ℕ → ℕ → Message → Option OfferFault
fault_of network w from to message = fault_of_read network w from to message (read_again message)

-- the first test that an offer fails, of all tests but the last, which is whether the message can be written
abbrev pub early_fault : Network → World → ℕ → ℕ → Message → Option OfferFault
early_fault network w from to message =
    fault_by (is_node network from) (not (is_node network to)) (is_some (called_of message))
    (uses_again network w from (name_of message)) false

-- what an offer answers, by the test that it fails
abbrev pub answer_by : Option OfferFault → Result (Unit {0}) OfferFault
answer_by (Some fault) = Err fault
answer_by None = Ok tt

-- the fault is lack of memory, which is not a test
abbrev pub is_memory : OfferFault → Bool
is_memory faults.OutOfMemory = true
is_memory faults.NotAnEnd = false
is_memory faults.NotANode = false
is_memory faults.Connectionless = false
is_memory faults.UsedReference = false
is_memory faults.NotWritable = false

-- the happening is an offer of this end, of a CR or CC with this source local reference
abbrev pub offers_of : ℕ → ℕ → Happening → Bool
offers_of from own (Offers point to message) = (point == from) && names own message
offers_of from own (Delivers point to) = false
