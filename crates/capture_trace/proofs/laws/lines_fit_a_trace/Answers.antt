use Rattle.capture_trace.proofs.Fitting.{fitting}
use Rattle.capture_trace.proofs.laws.lines_fit_a_trace.Goals as goal

pub returns : goal.returns
returns c = fitting
