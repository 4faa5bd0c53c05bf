-- The line of each field of a message, with its line feed.
use Rattle.std.specs.Prelude.{ℕ, Bool, if◌then◌else◌, List, [], ◌∷◌, ◌++◌, codes, decimal, Option, Some, None}
use Rattle.std.specs.List.{flat_map}
use Rattle.hex.specs.Hex.{encode_upper}
use Rattle.sccp_base.specs.Bits.{bits}
use Rattle.sccp_address.specs.declared.address.Address.{Address}
use Rattle.sccp_address.specs.declared.address.Title.{Title}
use Rattle.sccp_address.specs.declared.address.Title.TheVariants.{Absent, Global, Raw}
use Rattle.sccp_layout.specs.Parameter.{Parameter}
use Rattle.sccp_message.specs.Causes.{text_of}
use Rattle.sccp_message.specs.declared.cause.CauseTable.{CauseTable}
use Rattle.sccp_message.specs.declared.cause.CauseTable.TheVariants.{Return, Refusal, Fault}
use Rattle.sccp_report.specs.Values.{numbered, or_dash, octets_text, digits_text, point_code_text, selector_text}

-- a field that is one number
unfoldable pub number_line : List ℕ → ℕ → List ℕ
number_line name number = numbered name number ++ codes "\n"

-- local references
unfoldable pub source : ℕ → List ℕ
source reference = number_line (codes "source ") reference

unfoldable pub destination : ℕ → List ℕ
destination reference = number_line (codes "destination ") reference

-- sequence numbers, credit and hop counter
unfoldable pub send : ℕ → List ℕ
send number = number_line (codes "send ") number

unfoldable pub receive : ℕ → List ℕ
receive number = number_line (codes "receive ") number

unfoldable pub credit : ℕ → List ℕ
credit number = number_line (codes "credit ") number

unfoldable pub hops : ℕ → List ℕ
hops number = number_line (codes "hops ") number

-- whether more data follows
unfoldable pub more_line : Bool → List ℕ
more_line more = if more then codes "more yes\n" else codes "more no\n"

-- the class in bits 1 to 4, the options above it
unfoldable pub class_line : ℕ → List ℕ
class_line class = codes "class " ++ decimal (bits class 1 4) ++ codes " options " ++ decimal (bits class 5 8) ++ codes "\n"

-- a text after a blank, or nothing
abbrev pub after_blank : Option (List ℕ) → List ℕ
after_blank None = []
after_blank (Some text) = codes " " ++ text

-- a cause, and its text if its table has one
unfoldable pub cause_line : List ℕ → CauseTable → ℕ → List ℕ
cause_line name table cause = numbered name cause ++ after_blank (text_of table cause) ++ codes "\n"

unfoldable pub return_cause : ℕ → List ℕ
return_cause cause = cause_line (codes "return cause ") Return cause

unfoldable pub refusal_cause : ℕ → List ℕ
refusal_cause cause = cause_line (codes "refusal cause ") Refusal cause

unfoldable pub error_cause : ℕ → List ℕ
error_cause cause = cause_line (codes "error cause ") Fault cause

-- causes that have no texts
unfoldable pub release_cause : ℕ → List ℕ
release_cause cause = number_line (codes "release cause ") cause

unfoldable pub reset_cause : ℕ → List ℕ
reset_cause cause = number_line (codes "reset cause ") cause

-- a global title that is kept as octets: its kind, and those octets
unfoldable pub raw_title_text : ℕ → List ℕ → List ℕ
raw_title_text kind octets = codes " title " ++ numbered (codes "raw:") kind ++ codes " digits " ++ octets_text octets

-- the global title of an address: its selector and its digits, or its kind and the octets that it is kept as
unfoldable pub title_text : Title → List ℕ
title_text Absent = codes " title - digits -"
title_text (Global selector digits) = codes " title " ++ selector_text selector ++ codes " digits " ++ digits_text digits
title_text (Raw kind octets) = raw_title_text kind octets

unfoldable pub route_words : Bool → List ℕ
route_words by_ssn = if by_ssn then codes " route ssn" else codes " route title"

-- the end of the line, after a word if the bit for national use is set
unfoldable pub national_words : Bool → List ℕ
national_words national = if national then codes " national\n" else codes "\n"

-- an address: how it is routed, and its parts
unfoldable pub address_line : List ℕ → Address → List ℕ
address_line name a =
    name ++ route_words a.by_ssn
    ++ codes " point " ++ or_dash point_code_text a.pc
    ++ codes " ssn " ++ or_dash decimal a.ssn
    ++ title_text a.title
    ++ national_words a.national

unfoldable pub called : Address → List ℕ
called a = address_line (codes "called") a

unfoldable pub calling : Address → List ℕ
calling a = address_line (codes "calling") a

unfoldable pub data_line : List ℕ → List ℕ
data_line octets = codes "data " ++ octets_text octets ++ codes "\n"

-- an optional parameter: two digits of its name, and its contents
unfoldable pub parameter_line : Parameter → List ℕ
parameter_line p = codes "parameter " ++ encode_upper (p.name ∷ []) ++ codes " " ++ octets_text p.octets ++ codes "\n"

-- the parameters in their order
abbrev pub parameter_lines : List Parameter → List ℕ
parameter_lines params = flat_map parameter_line params
