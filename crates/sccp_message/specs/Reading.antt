-- Reading a message, or the first fault that is met.
use Rattle.std.specs.Prelude.{ℕ, Bool, true, false, List, [], slice_get, unwrap_or, Option, Some, None, Result, Ok, Err}
use Rattle.std.specs.Option.{ok_or}
use Rattle.std.specs.Result.{result_err}
use Rattle.std.specs.List.{range_with_len}
use Rattle.sccp_base.specs.Answers.{◌>>=◌, all_ok, Answers}
use Rattle.sccp_address.specs.declared.address.Address.{Address}
use Rattle.sccp_address.specs.declared.fault.AddressFault.{AddressFault}
use Rattle.sccp_address.specs.Reading.{address_of}
use Rattle.sccp_layout.specs.declared.parts.Parts.{Parts}
use Rattle.sccp_layout.specs.declared.parts.SplitFault.{SplitFault}
use Rattle.sccp_layout.specs.declared.parts.SplitFault.TheVariants as split
use Rattle.sccp_layout.specs.Parameter.{Parameter}
use Rattle.sccp_layout.specs.Table.{Row, row}
use Rattle.sccp_layout.specs.Splitting.{parts_of}
use Rattle.sccp_message.specs.declared.message.Message.{Message}
use Rattle.sccp_message.specs.declared.fault.DecodeFault.{DecodeFault}
use Rattle.sccp_message.specs.declared.fault.DecodeFault.TheVariants as faults
use Rattle.sccp_message.specs.Fields.{first_unread}
use Rattle.sccp_message.specs.Messages.{message_of}

-- want of memory is the only fault whose cause is not given
abbrev pub is_memory : DecodeFault → Bool
is_memory faults.OutOfMemory = true
is_memory (faults.Split f) = false
is_memory (faults.Address i f) = false
is_memory (faults.Field name) = false

-- the answer is the expected one, or memory ran out; view is what a clause sees of the answer's value
abbrev pub Gives : {X Y : Type 0} → (X → Y) → Result X DecodeFault → Result Y DecodeFault → Type 0
Gives view result expected = Answers is_memory view result expected

-- a fault of taking a message apart, as one of reading it
abbrev pub as_split : {X : Type 0} → Result X SplitFault → Result X DecodeFault
as_split (Ok x) = Ok x
as_split (Err f) = Err (faults.Split f)

-- a fault of the address in variable part i, as one of reading the message
abbrev pub as_address : {X : Type 0} → ℕ → Result X AddressFault → Result X DecodeFault
as_address i (Ok x) = Ok x
as_address i (Err f) = Err (faults.Address i f)

-- the i-th variable part
abbrev pub part_of : List (List ℕ) → ℕ → List ℕ
part_of variable i = unwrap_or (slice_get variable i) []

-- the address in variable part i
abbrev pub address_in : List (List ℕ) → ℕ → Result Address DecodeFault
address_in variable i = as_address i (address_of (part_of variable i))

-- the parameters, unless one of this name does not read
abbrev pub unread : Option ℕ → List Parameter → Result (List Parameter) DecodeFault
unread None params = Ok params
unread (Some name) params = Err (faults.Field name)

-- the parameters, once those that are known are tested
abbrev pub fields_in : List ℕ → List Parameter → Result (List Parameter) DecodeFault
fields_in known params = unread (first_unread known params) params

-- the message of parts, by the row of their type: the addresses in order, then the parameters that are known
abbrev pub message_by : Row → Parts → Result Message DecodeFault
message_by r p = do
  addresses ← all_ok (address_in p.variable) (range_with_len 0 r.addresses)
  params ← fields_in r.known p.params
  ok_or (message_of p.code p.fixed addresses (part_of p.variable r.addresses) params) (faults.Split split.UnknownType)

-- the message of parts, if their type is known
abbrev pub message_if : Option Row → Parts → Result Message DecodeFault
message_if None p = Err (faults.Split split.UnknownType)
message_if (Some r) p = message_by r p

-- the message of parts
unfoldable pub message_in : Parts → Result Message DecodeFault
message_in p = message_if (row p.code) p

-- the message that octets are, or the first fault
abbrev pub reading : List ℕ → Result Message DecodeFault
reading b = as_split (parts_of b) >>= message_in

-- the first test that fails: the type, the length, each variable part, the optional part, each address, each known parameter
abbrev pub first_fault : List ℕ → Option DecodeFault
first_fault b = result_err (reading b)
