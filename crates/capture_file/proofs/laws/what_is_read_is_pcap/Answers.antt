use Rattle.capture_file.proofs.PcapLemmas.{told-pcap}
use Rattle.capture_file.proofs.laws.what_is_read_is_pcap.Goals as goal

pub returns : goal.returns
returns c = told-pcap
