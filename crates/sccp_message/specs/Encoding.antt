-- Writing a message, or the fault that keeps it from being written.
use Rattle.std.specs.Prelude.{ℕ, ◌==◌, ◌&&◌, ◌||◌, Bool, true, false, List, [], length, Option, Some, None, Result, Ok, Err}
use Rattle.std.specs.Str.{bytes_eq}
use Rattle.sccp_base.specs.Answers.{Answers}
use Rattle.sccp_layout.specs.declared.parts.Parts.{Parts}
use Rattle.sccp_layout.specs.declared.parts.JoinFault.{JoinFault}
use Rattle.sccp_layout.specs.declared.parts.JoinFault.TheVariants as joins
use Rattle.sccp_layout.specs.Table.{Row, row}
use Rattle.sccp_layout.specs.Joining.{joining}
use Rattle.sccp_message.specs.declared.message.Message.{Message}
use Rattle.sccp_message.specs.declared.fault.DecodeFault.{DecodeFault}
use Rattle.sccp_message.specs.declared.encode_fault.EncodeFault.{EncodeFault}
use Rattle.sccp_message.specs.declared.encode_fault.EncodeFault.TheVariants as faults
use Rattle.sccp_message.specs.Reading.{reading}
use Rattle.sccp_message.specs.Written.{Content, content, parts_with}

-- want of memory is the only fault whose cause is not given
abbrev pub is_memory : EncodeFault → Bool
is_memory faults.OutOfMemory = true
is_memory (faults.TooLong part) = false
is_memory (faults.PointerTooFar i) = false

-- the answer is the expected one, or memory ran out; view is what a clause sees of the answer's value
abbrev pub Gives : {X Y : Type 0} → (X → Y) → Result X EncodeFault → Result Y EncodeFault → Type 0
Gives view result expected = Answers is_memory view result expected

-- a fault of joining parts, as one of writing a message
abbrev pub as_join : {X : Type 0} → Result X JoinFault → Result X EncodeFault
as_join (Ok x) = Ok x
as_join (Err (joins.TooLong part)) = Err (faults.TooLong part)
as_join (Err (joins.PointerTooFar i)) = Err (faults.PointerTooFar i)
as_join (Err joins.OutOfMemory) = Err faults.OutOfMemory

-- the octets of parts, by the row of their type
abbrev pub encoding_by : Option Row → Parts → Result (List ℕ) EncodeFault
encoding_by None p = Ok []
encoding_by (Some r) p = as_join (joining r.layout p)

-- the octets of what a message is made of
abbrev pub encoding_with : Content → Result (List ℕ) EncodeFault
encoding_with c = encoding_by (row c.code) (parts_with c)

-- The octets of a message, or the fault: a part or parameter that is too long for its length, otherwise a pointer that
-- does not fit.
abbrev pub encoding : Message → Result (List ℕ) EncodeFault
encoding m = encoding_with (content m)

-- What a message is made of has as many octets and parts as its type. It has parameters only if the type may have some.
abbrev pub fits_type : Option Row → Content → Bool
fits_type None c = false
fits_type (Some r) c = (length c.fixed == r.layout.fixed) && (length (parts_with c).variable == r.layout.variable)
    && (r.layout.optional || (length c.params == 0))

-- the same, for the type of its code
abbrev pub fits : Content → Bool
fits c = fits_type (row c.code) c

-- Whether octets are those that are written for the message that they are.

-- the answer of writing is these octets
abbrev pub is_written : List ℕ → Result (List ℕ) EncodeFault → Bool
is_written b (Ok octets) = bytes_eq octets b
is_written b (Err f) = false

-- the message that was read is written as these octets
abbrev pub is_written_of : List ℕ → Result Message DecodeFault → Bool
is_written_of b (Ok m) = is_written b (encoding m)
is_written_of b (Err f) = false

-- octets are a message, and are what is written for it
abbrev pub canonical : List ℕ → Bool
canonical b = is_written_of b (reading b)
