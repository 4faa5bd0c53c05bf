-- What is sent is read again.
use Rattle.std.specs.Prelude.{◌≡◌, ℕ, ◌+◌, ◌*◌, ◌/◌, ◌%◌, ◌<◌, Some, option_map, Ok, refl}
use Rattle.std.proofs.Common.{arith}
use Rattle.sccp_base.specs.Bits.{bits}
use Rattle.sccp_address.specs.Written.{IsAddress}
use Rattle.sccp_message.specs.Reading.{reading}
use Rattle.sccp_message.specs.Written.{IsMessage}
use Rattle.sccp_message.proofs.Octets.{written_again}
use Rattle.sccp_manage.specs.declared.status.StatusKind.{StatusKind}
use Rattle.sccp_manage.specs.declared.status.StatusKind.TheVariants.{Allowed, Prohibited, Test, OutOfServiceRequest, OutOfServiceGrant}
use Rattle.sccp_manage.specs.declared.status.StatusKind.TheVariants.{Congested}
use Rattle.sccp_manage.specs.declared.status.StatusMessage.{StatusMessage}
use Rattle.sccp_manage.specs.Statuses.{code_of, kind_of, management, status, status_of, status_data, status_octets, status_unitdata}

is_management : IsAddress management
is_management = record { pc = tt; ssn = omega arith; title = tt }

is_message : (s : StatusMessage) → IsMessage (status_unitdata s)
is_message s = record { addresses = (is_management, (is_management, tt)); named = tt; sevens_fit = tt }

pub unitdata_read : (s : StatusMessage) → reading (status_octets s) ≡ Ok (status_unitdata s)
unfolding status_octets
unitdata_read s = written_again (status_unitdata s) (is_message s) refl

kind_again : (kind : StatusKind) → kind_of (code_of kind) ≡ Some kind
kind_again Allowed = refl
kind_again Prohibited = refl
kind_again Test = refl
kind_again OutOfServiceRequest = refl
kind_again OutOfServiceGrant = refl
kind_again Congested = refl

point_again : (pc : ℕ) → pc < 16384 → pc % 256 + 256 * bits (pc / 256) 1 6 ≡ pc
point_again pc lt = omega arith

pub status_read : (s : StatusMessage) → s.pc < 16384 → status_of (status_data s) ≡ Some s
status_read s lt = λ i. option_map (λ kind. status kind s.ssn (point_again s.pc lt i)) (kind_again s.kind i)
