-- What distinguishes messages that are under way (ITU-T Q.714 section 4.1): the calling address as a value, and the
-- segmentation local reference.
use Rattle.std.specs.Prelude.{ℕ, ◌==◌, Bool, true, false, ◌&&◌, Option, Some, None}
use Rattle.std.specs.Str.{bytes_eq}
use Rattle.sccp_base.specs.Selector.{same_selector}
use Rattle.sccp_address.specs.declared.address.Address.{Address}
use Rattle.sccp_address.specs.declared.address.Title.{Title}
use Rattle.sccp_address.specs.declared.address.Title.TheVariants.{Absent, Global, Raw}
use Rattle.sccp_segment.specs.declared.key.Key.{Key}

-- parts of addresses, compared as values
abbrev pub same_flag : Bool → Bool → Bool
same_flag true true = true
same_flag false false = true
same_flag true false = false
same_flag false true = false

abbrev pub same_number : Option ℕ → Option ℕ → Bool
same_number None None = true
same_number (Some a) (Some b) = a == b
same_number None (Some b) = false
same_number (Some a) None = false

abbrev pub same_title : Title → Title → Bool
same_title Absent Absent = true
same_title (Global s digits) (Global t others) = same_selector s t && bytes_eq digits others
same_title (Raw kind octets) (Raw other others) = kind == other && bytes_eq octets others
same_title Absent (Global t others) = false
same_title Absent (Raw other others) = false
same_title (Global s digits) Absent = false
same_title (Global s digits) (Raw other others) = false
same_title (Raw kind octets) Absent = false
same_title (Raw kind octets) (Global t others) = false

-- two calling addresses are the same, and two keys are
unfoldable pub same_address : Address → Address → Bool
same_address a b = same_flag a.national b.national && same_flag a.by_ssn b.by_ssn && same_number a.pc b.pc && same_number a.ssn b.ssn
    && same_title a.title b.title

unfoldable pub same_key : Key → Key → Bool
same_key a b = a.reference == b.reference && same_address a.calling b.calling
