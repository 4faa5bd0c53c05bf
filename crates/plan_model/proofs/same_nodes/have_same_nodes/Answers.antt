use Rattle.std.proofs.Common.{◌∙◌}
use Rattle.plan_model.proofs.SameNodes.{same_nodes_told}
use Rattle.plan_model.proofs.same_nodes.have_same_nodes.Goals as goal

pub returns-clause-value : goal.returns-clause-value
returns-clause-value c =
    same_nodes_told c.args.old.now c.args.new.now c.as_slice.result.now c.as_slice-2.result.now c.are_same.result
    (c.as_slice.ensures ∙ c.nodes.ensures.value) (c.as_slice-2.ensures ∙ c.nodes-2.ensures.value) c.are_same.ensures
