use Rattle.sccp_report.proofs.HopsTold.{text_tells_route}
use Rattle.sccp_report.proofs.laws.text_tells_route.Goals as goal

pub returns : goal.returns
returns c = text_tells_route
