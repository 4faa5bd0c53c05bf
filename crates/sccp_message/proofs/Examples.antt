-- Worked messages, read by the definitions.
use Rattle.std.specs.Prelude.{◌≡◌, ℕ, true, false, [], ◌∷◌, replicate, Some, None, Ok, Err, refl}
use Rattle.sccp_base.specs.Selector.{numbers}
use Rattle.sccp_address.specs.declared.address.Address.{Address}
use Rattle.sccp_address.specs.declared.address.Title.TheVariants.{Absent, Global}
use Rattle.sccp_layout.specs.declared.parts.SplitFault.TheVariants as split
use Rattle.sccp_layout.specs.Parameter.{parameter}
use Rattle.sccp_layout.specs.Splitting.{parts_by}
use Rattle.sccp_address.specs.Reading.{address_of}
use Rattle.sccp_message.specs.declared.message.Message.TheVariants.{Rlc, Udt, Xudt, Ludt}
use Rattle.sccp_message.specs.declared.fault.DecodeFault.TheVariants as faults
use Rattle.sccp_layout.specs.Joining.{join_fault}
use Rattle.sccp_layout.specs.declared.parts.JoinFault.TheVariants.{PointerTooFar}
use Rattle.sccp_message.specs.Written.{message_octets, parts_from}
use Rattle.sccp_message.specs.Reading.{message_in, reading}
use Rattle.sccp_message.specs.Encoding.{canonical}

abbrev pub by_title : Address
by_title = record {
  national = false;
  by_ssn = false;
  pc = None;
  ssn = Some 6;
  title = Global (numbers 4 0 1 4)
      (4 ∷ 9 ∷ 1 ∷ 7 ∷ 1 ∷ 0 ∷ 0 ∷ 0 ∷ 0 ∷ 0 ∷ 1 ∷ 2 ∷ []);
}

abbrev pub by_point : Address
by_point = record { national = false; by_ssn = true; pc = Some 2049; ssn = Some 8; title = Absent }

abbrev pub by_number : ℕ → Address
by_number ssn = record { national = false; by_ssn = true; pc = None; ssn = Some ssn; title = Absent }

-- a plain UDT
pub plain : reading (0x09 ∷ 0x00 ∷ 0x03 ∷ 0x0E ∷ 0x12 ∷ 0x0B ∷ 0x12 ∷ 0x06 ∷ 0x00 ∷ 0x12 ∷ 0x04 ∷ 0x94 ∷ 0x71 ∷ 0x01 ∷ 0x00 ∷ 0x00
    ∷ 0x21 ∷ 0x04 ∷ 0x43 ∷ 0x01 ∷ 0x08 ∷ 0x08 ∷ 0x02 ∷ 0xAA ∷ 0xBB ∷ []) ≡ Ok (Udt 0 by_title by_point (0xAA ∷ 0xBB ∷ []))
unfolding message_in parts_by address_of
plain = refl

-- two octets that no part uses
with_gap : reading (0x09 ∷ 0x00 ∷ 0x03 ∷ 0x0E ∷ 0x14 ∷ 0x0B ∷ 0x12 ∷ 0x06 ∷ 0x00 ∷ 0x12 ∷ 0x04 ∷ 0x94 ∷ 0x71 ∷ 0x01 ∷ 0x00 ∷ 0x00
    ∷ 0x21 ∷ 0x04 ∷ 0x43 ∷ 0x01 ∷ 0x08 ∷ 0x08 ∷ 0x00 ∷ 0x00 ∷ 0x02 ∷ 0xAA ∷ 0xBB ∷ []) ≡ Ok (Udt 0 by_title by_point (0xAA ∷ 0xBB ∷ []))
unfolding message_in parts_by address_of
with_gap = refl

-- data of three octets, but only two are there
cut_off : reading (0x09 ∷ 0x00 ∷ 0x03 ∷ 0x0E ∷ 0x12 ∷ 0x0B ∷ 0x12 ∷ 0x06 ∷ 0x00 ∷ 0x12 ∷ 0x04 ∷ 0x94 ∷ 0x71 ∷ 0x01 ∷ 0x00 ∷ 0x00 ∷ 0x21
    ∷ 0x04 ∷ 0x43 ∷ 0x01 ∷ 0x08 ∷ 0x08 ∷ 0x03 ∷ 0xAA ∷ 0xBB ∷ []) ≡ Err (faults.Split (split.BadPart 2))
unfolding message_in parts_by address_of
cut_off = refl

-- a pointer of 0 to the optional part
no_options : reading (0x11 ∷ 0x00 ∷ 0x0F ∷ 0x04 ∷ 0x06 ∷ 0x08 ∷ 0x00 ∷ 0x02 ∷ 0x42 ∷ 0x06 ∷ 0x02 ∷ 0x42 ∷ 0x08 ∷ 0x01 ∷ 0xAA ∷ [])
    ≡ Ok (Xudt 0 15 (by_number 6) (by_number 8) (0xAA ∷ []) [])
unfolding message_in parts_by address_of
no_options = refl

-- segmentation, importance, and a parameter that is not known, in their order
options : reading (0x11 ∷ 0x00 ∷ 0x0F ∷ 0x04 ∷ 0x06 ∷ 0x08 ∷ 0x09 ∷ 0x02 ∷ 0x42 ∷ 0x06 ∷ 0x02 ∷ 0x42 ∷ 0x08 ∷ 0x01 ∷ 0xAA ∷ 0x10 ∷ 0x04
    ∷ 0x81 ∷ 0x01 ∷ 0x00 ∷ 0x00 ∷ 0x12 ∷ 0x01 ∷ 0x03 ∷ 0x7F ∷ 0x01 ∷ 0x55 ∷ 0x00 ∷ [])
    ≡ Ok (Xudt 0 15 (by_number 6) (by_number 8) (0xAA ∷ []) (parameter 0x10 (0x81 ∷ 1 ∷ 0 ∷ 0 ∷ []) ∷ parameter 0x12 (3 ∷ [])
    ∷ parameter 0x7F (0x55 ∷ []) ∷ []))
unfolding message_in parts_by address_of
options = refl

-- RLC
release : reading (0x05 ∷ 0x11 ∷ 0x00 ∷ 0x00 ∷ 0x01 ∷ 0x00 ∷ 0x00 ∷ []) ≡ Ok (Rlc 17 1)
unfolding message_in parts_by address_of
release = refl

-- RLC without its last octet
release_short : reading (0x05 ∷ 0x11 ∷ 0x00 ∷ 0x00 ∷ 0x01 ∷ 0x00 ∷ []) ≡ Err (faults.Split split.Short)
unfolding message_in parts_by address_of
release_short = refl

-- long data
long_data : reading (0x13 ∷ 0x00 ∷ 0x0F ∷ 0x07 ∷ 0x00 ∷ 0x08 ∷ 0x00 ∷ 0x09 ∷ 0x00 ∷ 0x00 ∷ 0x00 ∷ 0x02 ∷ 0x42 ∷ 0x06 ∷ 0x02 ∷ 0x42
    ∷ 0x08 ∷ 0x3E ∷ 0x0F ∷ replicate 3902 0x55) ≡ Ok (Ludt 0 15 (by_number 6) (by_number 8) (replicate 3902 0x55) [])
unfolding message_in parts_by address_of
long_data = refl

-- the plain UDT is canonical
plain_written : message_octets (Udt 0 by_title by_point (0xAA ∷ 0xBB ∷ [])) ≡ 0x09 ∷ 0x00 ∷ 0x03 ∷ 0x0E ∷ 0x12 ∷ 0x0B ∷ 0x12 ∷ 0x06
    ∷ 0x00 ∷ 0x12 ∷ 0x04 ∷ 0x94 ∷ 0x71 ∷ 0x01 ∷ 0x00 ∷ 0x00 ∷ 0x21 ∷ 0x04 ∷ 0x43 ∷ 0x01 ∷ 0x08 ∷ 0x08 ∷ 0x02 ∷ 0xAA ∷ 0xBB ∷ []
plain_written = refl

-- no optional part: pointer 0
no_options_written : message_octets (Xudt 0 15 (by_number 6) (by_number 8) (0xAA ∷ []) []) ≡ 0x11 ∷ 0x00 ∷ 0x0F ∷ 0x04 ∷ 0x06 ∷ 0x08
    ∷ 0x00 ∷ 0x02 ∷ 0x42 ∷ 0x06 ∷ 0x02 ∷ 0x42 ∷ 0x08 ∷ 0x01 ∷ 0xAA ∷ []
no_options_written = refl

-- with an optional part
options_written : message_octets (Xudt 0 15 (by_number 6) (by_number 8) (0xAA ∷ []) (parameter 0x10 (0x81 ∷ 1 ∷ 0 ∷ 0 ∷ [])
    ∷ parameter 0x12 (3 ∷ []) ∷ parameter 0x7F (0x55 ∷ []) ∷ [])) ≡ 0x11 ∷ 0x00 ∷ 0x0F ∷ 0x04 ∷ 0x06 ∷ 0x08 ∷ 0x09 ∷ 0x02 ∷ 0x42 ∷ 0x06
    ∷ 0x02 ∷ 0x42 ∷ 0x08 ∷ 0x01 ∷ 0xAA ∷ 0x10 ∷ 0x04 ∷ 0x81 ∷ 0x01 ∷ 0x00 ∷ 0x00 ∷ 0x12 ∷ 0x01 ∷ 0x03 ∷ 0x7F ∷ 0x01 ∷ 0x55 ∷ 0x00 ∷ []
options_written = refl

-- RLC
release_written : message_octets (Rlc 17 1) ≡ 0x05 ∷ 0x11 ∷ 0x00 ∷ 0x00 ∷ 0x01 ∷ 0x00 ∷ 0x00 ∷ []
release_written = refl

long_data_written : message_octets (Ludt 0 15 (by_number 6) (by_number 8) (replicate 3902 0x55) []) ≡ 0x13 ∷ 0x00 ∷ 0x0F ∷ 0x07 ∷ 0x00
    ∷ 0x08 ∷ 0x00 ∷ 0x09 ∷ 0x00 ∷ 0x00 ∷ 0x00 ∷ 0x02 ∷ 0x42 ∷ 0x06 ∷ 0x02 ∷ 0x42 ∷ 0x08 ∷ 0x3E ∷ 0x0F ∷ replicate 3902 0x55
long_data_written = refl

-- the optional part of an XUDT may begin 255 octets after its pointer, and no more
abbrev by_digits : ℕ → Address
by_digits n = record { national = false; by_ssn = false; pc = None; ssn = Some 6; title = Global (numbers 4 0 1 4) (replicate n 4) }

near : join_fault (record { fixed = 2; variable = 3; optional = true; long = false })
    (parts_from (Xudt 0 15 (by_digits 12) by_point (replicate 230 0x55) (parameter 0x12 (3 ∷ []) ∷ []))) ≡ None
near = refl

far : join_fault (record { fixed = 2; variable = 3; optional = true; long = false })
    (parts_from (Xudt 0 15 (by_digits 27) by_point (replicate 230 0x55) (parameter 0x12 (3 ∷ []) ∷ []))) ≡ Some (PointerTooFar 3)
far = refl

-- the plain UDT is what is written for it; with two octets that no part uses it is not
plain_is_canonical : canonical (0x09 ∷ 0x00 ∷ 0x03 ∷ 0x0E ∷ 0x12 ∷ 0x0B ∷ 0x12 ∷ 0x06 ∷ 0x00 ∷ 0x12 ∷ 0x04 ∷ 0x94 ∷ 0x71 ∷ 0x01 ∷ 0x00
    ∷ 0x00 ∷ 0x21 ∷ 0x04 ∷ 0x43 ∷ 0x01 ∷ 0x08 ∷ 0x08 ∷ 0x02 ∷ 0xAA ∷ 0xBB ∷ []) ≡ true
unfolding message_in parts_by address_of
plain_is_canonical = refl

gap_is_not : canonical (0x09 ∷ 0x00 ∷ 0x03 ∷ 0x0E ∷ 0x14 ∷ 0x0B ∷ 0x12 ∷ 0x06 ∷ 0x00 ∷ 0x12 ∷ 0x04 ∷ 0x94 ∷ 0x71 ∷ 0x01 ∷ 0x00 ∷ 0x00
    ∷ 0x21 ∷ 0x04 ∷ 0x43 ∷ 0x01 ∷ 0x08 ∷ 0x08 ∷ 0x00 ∷ 0x00 ∷ 0x02 ∷ 0xAA ∷ 0xBB ∷ []) ≡ false
unfolding message_in parts_by address_of
gap_is_not = refl
