use Rattle.sccp_report.proofs.Parted.{point_codes_apart}
use Rattle.sccp_report.proofs.laws.text_tells_point_code.Goals as goal

pub returns : goal.returns
returns c = point_codes_apart
