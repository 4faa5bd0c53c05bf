-- Which messages count as the one that the plan has a relay send.
use Rattle.std.specs.Prelude.{◌≡◌, ◌==◌, ◌&&◌, nat_eq, if◌then◌else◌, ℕ, ◌⊎◌, Bool, true, false, not, List, Option, Some, None}
use Rattle.std.specs.Cmp.Lexicographic.{pointwise}
use Rattle.sccp_base.specs.Selector.{same_selector}
use Rattle.sccp_address.specs.declared.address.Address.{Address}
use Rattle.sccp_address.specs.declared.address.Title.{Title}
use Rattle.sccp_address.specs.declared.address.Title.TheVariants.{Absent, Global, Raw}
use Rattle.sccp_layout.specs.Parameter.{Parameter}
use Rattle.sccp_message.specs.declared.message.Message.{Message}
use Rattle.sccp_message.specs.declared.message.Message.TheVariants.{Udt, Udts, Xudt, Xudts, Ludt, Ludts}
use Rattle.sccp_message.specs.Unitdata.{called_of}
use Rattle.sccp_scrc.specs.Unitdata.{redirected}

-- the point code of the point that the message goes to may be there or not
abbrev pub IsSamePoint : ℕ → Option ℕ → Option ℕ → Type 0
IsSamePoint to a b = (a ≡ b) ⊎ ((a ≡ None) × (b ≡ Some to)) ⊎ ((a ≡ Some to) × (b ≡ None))

-- the same called address; one that routes on the subsystem number may leave its title out
pub record IsSameCalled (to : ℕ) (a b : Address) : Type 0 where
  pub national : b.national ≡ a.national
  pub routing : b.by_ssn ≡ a.by_ssn
  pub point : IsSamePoint to a.pc b.pc
  pub subsystem : b.ssn ≡ a.ssn
  pub title : (b.title ≡ a.title) ⊎ ((a.by_ssn ≡ true) × (b.title ≡ Absent))

-- The sent message is the expected one, but for those two parts of the called address. The standard leaves both to the relay.
pub record IsAlike (to : ℕ) (expected sent : Message) : Type 0 where
  pub old : Address
  pub new : Address
  pub expected_called : called_of expected ≡ Some old
  pub same : sent ≡ redirected new (λ hops. hops) expected
  pub called : IsSameCalled to old new

-- The fields of a connectionless message beside its called address, its hop counter and its data: the type code, the class or
-- cause, the calling address and the parameters. Another message has no such fields, and the code 0.

abbrev pub code_of : Message → ℕ
code_of (Udt class called calling payload) = 9
code_of (Udts cause called calling payload) = 10
code_of (Xudt class hops called calling payload params) = 17
code_of (Xudts cause hops called calling payload params) = 18
code_of (Ludt class hops called calling payload params) = 19
code_of (Ludts cause hops called calling payload params) = 20
code_of m = 0

abbrev pub number_of : Message → ℕ
number_of (Udt class called calling payload) = class
number_of (Udts cause called calling payload) = cause
number_of (Xudt class hops called calling payload params) = class
number_of (Xudts cause hops called calling payload params) = cause
number_of (Ludt class hops called calling payload params) = class
number_of (Ludts cause hops called calling payload params) = cause
number_of m = 0

abbrev pub calling_of : Message → Option Address
calling_of (Udt class called calling payload) = Some calling
calling_of (Udts cause called calling payload) = Some calling
calling_of (Xudt class hops called calling payload params) = Some calling
calling_of (Xudts cause hops called calling payload params) = Some calling
calling_of (Ludt class hops called calling payload params) = Some calling
calling_of (Ludts cause hops called calling payload params) = Some calling
calling_of m = None

abbrev pub params_of : Message → Option (List Parameter)
params_of (Xudt class hops called calling payload params) = Some params
params_of (Xudts cause hops called calling payload params) = Some params
params_of (Ludt class hops called calling payload params) = Some params
params_of (Ludts cause hops called calling payload params) = Some params
params_of m = None

-- Tests for the relations above.

abbrev pub same_flag : Bool → Bool → Bool
same_flag true b = b
same_flag false b = not b

abbrev pub same_optional : Option ℕ → Option ℕ → Bool
same_optional None None = true
same_optional None (Some b) = false
same_optional (Some a) None = false
same_optional (Some a) (Some b) = a == b

abbrev pub same_point : ℕ → Option ℕ → Option ℕ → Bool
same_point to None None = true
same_point to None (Some b) = b == to
same_point to (Some a) None = a == to
same_point to (Some a) (Some b) = a == b

abbrev pub same_title : Title → Title → Bool
same_title Absent Absent = true
same_title Absent (Global selector digits) = false
same_title Absent (Raw kind octets) = false
same_title (Global selector digits) Absent = false
same_title (Global selector digits) (Global s d) = same_selector selector s && pointwise nat_eq digits d
same_title (Global selector digits) (Raw k o) = false
same_title (Raw kind octets) Absent = false
same_title (Raw kind octets) (Global s d) = false
same_title (Raw kind octets) (Raw k o) = kind == k && pointwise nat_eq octets o

abbrev pub is_absent : Title → Bool
is_absent Absent = true
is_absent (Global selector digits) = false
is_absent (Raw kind octets) = false

abbrev pub same_address : Address → Address → Bool
same_address a b = same_flag a.national b.national
    && (same_flag a.by_ssn b.by_ssn && (same_optional a.pc b.pc && (same_optional a.ssn b.ssn && same_title a.title b.title)))

abbrev pub same_called : ℕ → Address → Address → Bool
same_called to a b = same_flag a.national b.national
    && (same_flag a.by_ssn b.by_ssn && (same_point to a.pc b.pc && (same_optional a.ssn b.ssn
    && (if same_title a.title b.title then true else a.by_ssn && is_absent b.title))))
