use Rattle.capture_file.proofs.FrontLemmas.{first-given}
use Rattle.capture_file.proofs.laws.beginnings_give_first_packets.Goals as goal

pub returns : goal.returns
returns c = first-given
