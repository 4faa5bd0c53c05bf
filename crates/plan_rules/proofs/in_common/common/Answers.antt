use Rattle.std.proofs.Common.{arith, sym, slice_index_or}
use Rattle.std.proofs.lemmas.List.Sums.{common_prefix_len-drop_no, common_prefix_len-drop_yes}
use Rattle.std.proofs.lemmas.Bool.{eq-eqb, ne_eqb}
use Rattle.std.specs.Prelude.{nat_eq}
use Rattle.plan_rules.proofs.TitleOrder.{common_past, common_over}
use Rattle.plan_rules.proofs.in_common.common.Goals as goal
use Rattle.plan_rules.proofs.in_common.common.Goals.{then-i-b-via-then-i-b, then-i-b-via-else-i-b+then-b-i}

pub loop-i-init : goal.loop-i-init
loop-i-init c = omega arith

pub returns-then-i-b : goal.returns-then-i-b
returns-then-i-b c =
    let h = c.loop-i.invariant in
    elim c.then-i-b.branch [
      | then-i-b-via-then-i-b w ↦
          let none = common_past c.args.a.now c.args.b.now c.loop-i.i w.if-i-b.true in omega arith
      | then-i-b-via-else-i-b+then-b-i w ↦
          let none = common_prefix_len-drop_no nat_eq c.args.a.now c.args.b.now c.loop-i.i 0 0 c.loop-i-test.true w.if-i-b.false
          (ne_eqb (slice_index_or c.args.a.now c.loop-i.i 0) (slice_index_or c.args.b.now c.loop-i.i 0)
          (λ e. w.if-b-i.true (sym e))) in omega arith
    ]

pub loop-i-preserved : goal.loop-i-preserved
loop-i-preserved c =
    let h = c.loop-i.invariant in
    let more = common_prefix_len-drop_yes nat_eq c.args.a.now c.args.b.now c.loop-i.i 0 0 c.loop-i-test.true c.if-i-b.false
    (eq-eqb (slice_index_or c.args.a.now c.loop-i.i 0) (slice_index_or c.args.b.now c.loop-i.i 0) (omega (arith, c.if-b-i.false))) in
    omega arith

pub returns : goal.returns
returns c =
    let h = c.loop-i.invariant in
    let none = common_over c.args.a.now c.args.b.now c.loop-i.i c.loop-i-test.false in
    omega arith
