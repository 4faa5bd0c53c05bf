use Rattle.std.specs.Prelude.{true}
use Rattle.capture_file.specs.Told.{told}
use Rattle.capture_trace.proofs.FileOctets.{packets-have-octets}
use Rattle.capture_trace.proofs.ReadAgain.{all_read_again}
use Rattle.capture_trace.proofs.laws.messages_are_read_again.Goals as goal

pub returns-clause-packets : goal.returns-clause-packets
returns-clause-packets c = all_read_again

pub returns-clause-file : goal.returns-clause-file
returns-clause-file c = λ plan b is each. all_read_again plan (told true b) is (packets-have-octets true b each)
