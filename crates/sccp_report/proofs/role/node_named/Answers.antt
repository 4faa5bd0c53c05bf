use Rattle.plan_model.specs.Network.{has_name}
use Rattle.sccp_report.proofs.Named.{found_within}
use Rattle.sccp_report.proofs.role.node_named.Goals as goal

pub returns-clause-within : goal.returns-clause-within
returns-clause-within c = found_within (has_name c.args.name.now) c.args.plan.now.nodes c.node_named.result c.node_named.ensures
