use Rattle.std.proofs.Common.{◌≡◌, ◌++◌, List, ◌∙◌, subst}
use Rattle.std.specs.Prelude.{OnOk}
use Rattle.relay_ways.specs.declared.condition.Condition.{Condition}
use Rattle.relay_ways.proofs.TurnConditions.{closed_made}
use Rattle.relay_ways.proofs.turns.add_all_closed.Goals as goal

pub returns-in_ok-before-in-Some : goal.returns-in_ok-before-in-Some
returns-in_ok-before-in-Some c =
    subst (λ (cs : List Condition). OnOk c.add_each_closed.result (c.add_each_closed.new.found ≡ c.args.found.now ++ cs))
    (closed_made c.args.node.now c.args.ssn c.args.targets.now c.in-Some.earlier.now c.in-Some.last.now c.in_ok-before-in-Some.before
    c.as_slice.result.now c.in-Some.ensures.cases.0 c.in_ok-before-in-Some.ensures (c.as_slice.ensures ∙ c.of-marks.ensures))
    c.add_each_closed.ensures
