use Rattle.capture_file.proofs.SpelledLemmas.{pcap-told}
use Rattle.capture_file.proofs.laws.pcap_files_are_read.Goals as goal

pub returns : goal.returns
returns c = pcap-told
