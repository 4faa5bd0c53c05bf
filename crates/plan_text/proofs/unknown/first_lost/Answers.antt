use Rattle.std.proofs.Common.{sym, ap, map, ◌∙◌}
use Rattle.toml.specs.View.{view}
use Rattle.plan_text.specs.Tests.{lost_in_node, lost_in_rows}
use Rattle.plan_text.proofs.Seen.{first_here, first_next, first_end}
use Rattle.plan_text.proofs.unknown.first_lost.Goals as goal

pub returns-in-Some : goal.returns-in-Some
returns-in-Some c =
    first_here view (lost_in_node (map view c.args.names.now)) c.args.nodes.now c.loop-i.i c.index-nodes-i.result _ _ c.loop-i-test.true
    (sym c.index-nodes-i.is) (ap (lost_in_rows (map view c.args.names.now) c.loop-i.i) (sym c.elements_at.ensures)
    ∙ sym c.in-Some.ensures) c.loop-i.invariant

pub loop-i-preserved : goal.loop-i-preserved
loop-i-preserved c =
    first_next view (lost_in_node (map view c.args.names.now)) c.args.nodes.now c.loop-i.i c.index-nodes-i.result _ c.loop-i-test.true
    (sym c.index-nodes-i.is) (ap (lost_in_rows (map view c.args.names.now) c.loop-i.i) (sym c.elements_at.ensures)
    ∙ sym c.in_default.ensures) c.loop-i.invariant

pub returns : goal.returns
returns c = first_end view (lost_in_node (map view c.args.names.now)) c.args.nodes.now c.loop-i.i _ c.loop-i-test.false c.loop-i.invariant
