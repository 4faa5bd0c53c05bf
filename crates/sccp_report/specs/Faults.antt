-- Why octets are no message, in words.
use Rattle.std.specs.Prelude.{ℕ, List, [], ◌∷◌, ◌++◌, codes}
use Rattle.hex.specs.Hex.{encode_upper}
use Rattle.sccp_address.specs.declared.fault.AddressFault.{AddressFault}
use Rattle.sccp_address.specs.declared.fault.AddressFault.TheVariants as addresses
use Rattle.sccp_layout.specs.declared.parts.SplitFault.{SplitFault}
use Rattle.sccp_layout.specs.declared.parts.SplitFault.TheVariants as parts
use Rattle.sccp_message.specs.declared.fault.DecodeFault.{DecodeFault}
use Rattle.sccp_message.specs.declared.fault.DecodeFault.TheVariants as faults
use Rattle.sccp_report.specs.Values.{numbered}

-- what keeps the parts of a message apart from being found
abbrev pub split_fault_words : SplitFault → List ℕ
split_fault_words parts.UnknownType = codes "unknown type"
split_fault_words parts.Short = codes "short"
split_fault_words (parts.BadPointer i) = numbered (codes "bad pointer ") i
split_fault_words (parts.BadPart i) = numbered (codes "bad part ") i
split_fault_words parts.BadOptional = codes "bad optional"
split_fault_words parts.OutOfMemory = []

abbrev pub address_fault_words : AddressFault → List ℕ
address_fault_words addresses.Empty = codes "empty"
address_fault_words addresses.Short = codes "short"
address_fault_words addresses.Extra = codes "extra"
address_fault_words addresses.OddWithoutDigits = codes "odd without digits"
address_fault_words addresses.OutOfMemory = []

-- why octets are no message. Want of memory is no fault of theirs, and has no words.
abbrev pub fault_words : DecodeFault → List ℕ
fault_words (faults.Split fault) = split_fault_words fault
fault_words (faults.Address i fault) = numbered (codes "address ") i ++ codes " " ++ address_fault_words fault
fault_words (faults.Field name) = codes "field " ++ encode_upper (name ∷ [])
fault_words faults.OutOfMemory = []
