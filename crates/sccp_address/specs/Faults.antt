-- What is answered by a call that may refuse octets as an address.
use Rattle.std.specs.Prelude.{Bool, true, false, Result}
use Rattle.sccp_base.specs.Answers.{Answers}
use Rattle.sccp_address.specs.declared.fault.AddressFault.{AddressFault}
use Rattle.sccp_address.specs.declared.fault.AddressFault.TheVariants.{Empty, Short, Extra, OddWithoutDigits, OutOfMemory}

-- want of memory is the only fault whose cause is not given
abbrev pub is_memory : AddressFault → Bool
is_memory OutOfMemory = true
is_memory Empty = false
is_memory Short = false
is_memory Extra = false
is_memory OddWithoutDigits = false

-- the answer is the expected one, or memory ran out; view is what a clause sees of the answer's value
abbrev pub Gives : {X Y : Type 0} → (X → Y) → Result X AddressFault → Result Y AddressFault → Type 0
Gives view result expected = Answers is_memory view result expected
