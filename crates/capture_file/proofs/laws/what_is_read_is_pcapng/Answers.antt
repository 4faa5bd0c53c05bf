use Rattle.capture_file.proofs.PcapngLemmas.{told-pcapng}
use Rattle.capture_file.proofs.laws.what_is_read_is_pcapng.Goals as goal

pub returns : goal.returns
returns c = told-pcapng
