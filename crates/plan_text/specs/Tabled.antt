-- The nodes of a text, with their tables.
use Rattle.std.specs.Prelude.{ℕ, List, Result, Ok, Err}
use Rattle.plan_rules.specs.declared.rule_fault.RuleFault.{RuleFault}
use Rattle.plan_rules.specs.Rule.{Rule}
use Rattle.plan_rules.specs.Tables.{tabled}
use Rattle.plan_model.specs.declared.node.Node.{Node}
use Rattle.plan_model.specs.declared.plan_fault.PlanFault.{PlanFault}
use Rattle.plan_model.specs.declared.plan_fault.PlanFault.TheVariants.{Rule as RowFault}
use Rattle.plan_text.specs.EachOk.{each_ok}
use Rattle.plan_text.specs.Drafts.{Drafted}

-- with its table, or the fault of its rows at its place
abbrev pub with_table : ℕ → Drafted → Result (List Rule) RuleFault → Result Node PlanFault
with_table i d (Ok rows) = Ok (record { name = d.name; pc = d.pc; subsystems = d.subsystems; concerned = d.concerned; table = rows })
with_table i d (Err fault) = Err (RowFault i fault)

unfoldable pub node_of : ℕ → Drafted → Result Node PlanFault
node_of i d = with_table i d (tabled d.rows)

-- all nodes in their order
abbrev pub nodes_of : List Drafted → Result (List Node) PlanFault
nodes_of drafts = each_ok node_of 0 drafts
