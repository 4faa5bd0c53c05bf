-- what a plan keeps of each target
use Rattle.std.specs.Prelude.{◌≡◌, false, length, IfSome}
use Rattle.std.specs.List.{All}
use Rattle.sccp_base.proofs.Among.{Among, All-among, list_any-none, position-None}
use Rattle.plan_rules.specs.declared.target.Target.{Target}
use Rattle.plan_rules.specs.Target.{ssn_of, strips_more, target_makes_odd, IsTarget}
use Rattle.plan_rules.specs.Rule.{Rule}
use Rattle.plan_rules.specs.Tables.{strips_too_long, makes_odd, IsRule, IsTable}
use Rattle.plan_model.specs.declared.node.Node.{Node}
use Rattle.plan_model.specs.Network.{Network, IsSubsystem, NamesSubsystems, IsNode, LeadsOn, IsPlan}

-- A target's numbers are in range, and a relay is another node. A target strips no more than the prefix of its row, and gives
-- no title of kind 2 an odd number of digits.
pub record IsTargetOf (plan : Network) (node : Node) (r : Rule) (t : Target) : Type 0 where
  pub sound : IsTarget t
  pub ssn : IfSome (ssn_of t) IsSubsystem
  pub strips : strips_more (length r.prefix) t ≡ false
  pub even : target_makes_odd r.selector.kind t ≡ false
  pub leads : LeadsOn plan.nodes node t

pub sound_target : (plan : Network) (node : Node) (r : Rule) (t : Target) → IsPlan plan → Among node plan.nodes → Among r node.table
    → Among t r.targets → IsTargetOf plan node r t
sound_target plan node r t is at among target =
    let table : IsTable node.table = All-among (λ (n : Node). IsTable n.table) node plan.nodes is.tables at in
    let row : IsRule r = All-among IsRule r node.table table.rules among in
    let named : NamesSubsystems r = All-among NamesSubsystems r node.table (All-among IsNode node plan.nodes is.nodes at).named among in
    record {
      sound = All-among IsTarget t r.targets row.targets target;
      ssn = All-among (λ u. IfSome (ssn_of u) IsSubsystem) t r.targets named.targets target;
      strips = list_any-none (strips_more (length r.prefix)) t r.targets
          (position-None strips_too_long r node.table table.strips among) target;
      even = list_any-none (target_makes_odd r.selector.kind) t r.targets (position-None makes_odd r node.table table.even among) target;
      leads = All-among (LeadsOn plan.nodes node) t r.targets
          (All-among (λ (q : Rule). All (LeadsOn plan.nodes node) q.targets) r node.table
          (All-among (λ (n : Node). All (λ q. All (LeadsOn plan.nodes n) q.targets) n.table) node plan.nodes is.relays at) among) target;
    }
