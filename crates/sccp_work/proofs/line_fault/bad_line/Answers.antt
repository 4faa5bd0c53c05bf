use Rattle.std.proofs.Common.{append_assoc}
use Rattle.sccp_work.proofs.line_fault.bad_line.Goals as goal

pub returns : goal.returns
returns c = rw (c.into_bytes.ensures.value, c.in_ok-text.ensures.ok, c.kind_text-kind.ensures) (simp append_assoc)
