use Rattle.std.proofs.Common.{ap}
use Rattle.sccp_message.specs.Written.{message_octets}
use Rattle.sccp_message.proofs.Octets.{equal_again}
use Rattle.sccp_message.proofs.round_trip.equal_by_octets.Goals as goal

pub returns : goal.returns
returns c = λ m n is_m sound_m is_n sound_n. (λ e. ap message_octets e, equal_again m n is_m sound_m is_n sound_n)
