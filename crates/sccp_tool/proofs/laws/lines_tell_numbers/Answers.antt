use Rattle.sccp_tool.proofs.LinesTold.{numbers_told}
use Rattle.sccp_tool.proofs.laws.lines_tell_numbers.Goals as goal

pub returns : goal.returns
returns c = numbers_told
