use Rattle.capture_trace.proofs.Forms.{forms}
use Rattle.capture_trace.proofs.laws.lines_have_forms.Goals as goal

pub returns : goal.returns
returns c = forms
