use Rattle.std.proofs.Common.{◌∙◌}
use Rattle.std.specs.Cmp.Lexicographic.{pointwise}
use Rattle.sccp_base.specs.Marks.{same_mark}
use Rattle.plan_verify.proofs.Unions.{same_blocked}
use Rattle.plan_verify.proofs.steady.is_same_step.Goals as goal

pub returns-then-cause-code : goal.returns-then-cause-code
returns-then-cause-code c =
    same_blocked _ _ _ _ _ _ c.are_same_marks.result c.in-Blocked-Blocked.is-0 c.in-Blocked-Blocked.is-1 c.if-cause-code.true
    (c.are_same_marks.ensures ∙ (λ i. pointwise same_mark (c.as_slice.ensures i) (c.as_slice-then-cause-code.ensures i)))
