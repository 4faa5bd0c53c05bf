-- Worked addresses, read and written by the definitions.
use Rattle.std.specs.Prelude.{◌≡◌, false, [], ◌∷◌, Some, None, Ok, Err, refl}
use Rattle.sccp_base.specs.Selector.{numbers}
use Rattle.sccp_address.specs.declared.address.Address.{Address}
use Rattle.sccp_address.specs.declared.address.Title.TheVariants.{Global, Raw}
use Rattle.sccp_address.specs.declared.fault.AddressFault.TheVariants.{Extra, OddWithoutDigits}
use Rattle.sccp_address.specs.Reading.{address_of}
use Rattle.sccp_address.specs.Written.{written}

abbrev of_three : Address
of_three = record { national = false; by_ssn = false; pc = None; ssn = Some 6; title = Global (numbers 4 0 1 4) (4 ∷ 9 ∷ 1 ∷ []) }

-- an odd number of digits, and then the filler F
pub odd_digits : address_of (0x12 ∷ 0x06 ∷ 0x00 ∷ 0x11 ∷ 0x04 ∷ 0x94 ∷ 0xF1 ∷ []) ≡ Ok of_three
unfolding address_of
odd_digits = refl

-- it is written with the filler 0
odd_written : written of_three ≡ 0x12 ∷ 0x06 ∷ 0x00 ∷ 0x11 ∷ 0x04 ∷ 0x94 ∷ 0x01 ∷ []
odd_written = refl

odd_without_digits : address_of (0x12 ∷ 0x06 ∷ 0x00 ∷ 0x11 ∷ 0x04 ∷ []) ≡ Err OddWithoutDigits
unfolding address_of
odd_without_digits = refl

-- another encoding scheme, and more than 32 digits
other_scheme : address_of (0x12 ∷ 0x06 ∷ 0x00 ∷ 0x13 ∷ 0x04 ∷ 0x49 ∷ 0x41 ∷ [])
    ≡ Ok (record { national = false; by_ssn = false; pc = None; ssn = Some 6; title = Raw 4 (0x00 ∷ 0x13 ∷ 0x04 ∷ 0x49 ∷ 0x41 ∷ []) })
unfolding address_of
other_scheme = refl

extra : address_of (0x42 ∷ 0x06 ∷ 0x00 ∷ []) ≡ Err Extra
unfolding address_of
extra = refl
