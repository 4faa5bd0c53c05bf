use Rattle.sccp_message.proofs.Octets.{written_again}
use Rattle.sccp_message.proofs.Writing.{written_reads}
use Rattle.sccp_message.proofs.round_trip.written_reads.Goals as goal

pub returns-clause-reads : goal.returns-clause-reads
returns-clause-reads c = written_reads

pub returns-clause-exact : goal.returns-clause-exact
returns-clause-exact c = written_again
