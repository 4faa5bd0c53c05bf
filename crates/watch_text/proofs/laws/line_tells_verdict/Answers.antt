use Rattle.watch_text.proofs.LinesTold.{line_tells_number, line_tells_kind, line_tells_reason}
use Rattle.watch_text.proofs.laws.line_tells_verdict.Goals as goal

pub returns-clause-number : goal.returns-clause-number
returns-clause-number c = line_tells_number

pub returns-clause-kind : goal.returns-clause-kind
returns-clause-kind c = line_tells_kind

pub returns-clause-reason : goal.returns-clause-reason
returns-clause-reason c = line_tells_reason
