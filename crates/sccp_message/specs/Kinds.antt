-- The kinds of types: which fields their messages have (ITU-T Q.713 section 4). A function that reads one kind promises a
-- message for its codes only.
use Rattle.std.specs.Prelude.{ℕ, Bool, ◌||◌, ◌==◌, if◌then◌else◌, Result, Err}
use Rattle.sccp_layout.specs.declared.parts.Parts.{Parts}
use Rattle.sccp_layout.specs.declared.parts.SplitFault.TheVariants as split
use Rattle.sccp_message.specs.declared.message.Message.{Message}
use Rattle.sccp_message.specs.declared.fault.DecodeFault.{DecodeFault}
use Rattle.sccp_message.specs.declared.fault.DecodeFault.TheVariants as faults
use Rattle.sccp_message.specs.Reading.{message_in}

-- connectionless without an optional part: a called and a calling address, and data
abbrev pub is_plain : ℕ → Bool
is_plain code = (code == 0x09) || (code == 0x0A)

-- connectionless, with these, a hop counter and an optional part
abbrev pub is_extended : ℕ → Bool
is_extended code = (code == 0x11) || (code == 0x12) || (code == 0x13) || (code == 0x14)

-- connection-oriented, with an optional part
abbrev pub has_parameters : ℕ → Bool
has_parameters code = (code == 0x01) || (code == 0x02) || (code == 0x03) || (code == 0x04)

-- connection-oriented, with fixed fields only, or with these and data
abbrev pub has_no_parameters : ℕ → Bool
has_no_parameters code = (code == 0x05) || (code == 0x06) || (code == 0x07) || (code == 0x08) || (code == 0x0B) || (code == 0x0C)
    || (code == 0x0D) || (code == 0x0E) || (code == 0x0F) || (code == 0x10)

-- the message of parts of a kind; another code is unknown there
abbrev pub message_if_of : (ℕ → Bool) → Parts → Result Message DecodeFault
message_if_of is p = if is p.code then message_in p else Err (faults.Split split.UnknownType)
