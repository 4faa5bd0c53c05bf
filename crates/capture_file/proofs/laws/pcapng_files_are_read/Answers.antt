use Rattle.capture_file.proofs.SectionLemmas.{sections-given}
use Rattle.capture_file.proofs.laws.pcapng_files_are_read.Goals as goal

pub returns : goal.returns
returns c = sections-given
