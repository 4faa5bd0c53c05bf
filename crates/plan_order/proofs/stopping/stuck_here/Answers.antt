use Rattle.std.specs.Prelude.{◌≡◌, ◌+◌, List, map, Option, Some}
use Rattle.std.specs.List.{All}
use Rattle.std.proofs.Common.{◌∙◌, sym, subst, get_or, take, take_all}
use Rattle.plan_order.specs.declared.stuck.Stuck.{Stuck}
use Rattle.plan_order.specs.Orders.{IsStuck}
use Rattle.plan_order.specs.Searching.{IsWhy}
use Rattle.plan_order.proofs.Members.{in-at}
use Rattle.plan_order.proofs.Refusals.{stuck_one, stuck_more, nodes_more, refusal_lawful}
use Rattle.plan_order.proofs.stopping.stuck_here.Goals as goal

pub why_stuck-requires-clause-refused : goal.why_stuck-requires-clause-refused
why_stuck-requires-clause-refused c = c.requires.refused c.loop-node.node-index 0 c.loop-node-test.true

pub loop-node-preserved : goal.loop-node-preserved
loop-node-preserved c =
    let old = c.args.plans.now.old.now in
    let new = c.args.plans.now.new.now in
    let done = c.args.done.now in
    let left = c.args.left.now in
    let i = c.loop-node.node-index in
    let one = c.in-Some.one in
    let why : IsWhy old new done (get_or left i 0) (Some one) =
    subst (λ (o : Option Stuck). IsWhy old new done (get_or left i 0) o) c.in-Some.is c.in_ok-one.ensures in
    record {
      each = subst (λ (all : List Stuck). All (IsStuck old new done) all) (sym c.in_ok-push-in-Some.ensures.ok)
          (stuck_more old new done c.loop-node.stuck one c.loop-node.invariant.each
          (stuck_one old new done left (get_or left i 0) one c.requires.split (in-at left i c.loop-node-test.true) why));
      nodes = subst (λ (all : List Stuck). map (λ (s : Stuck). s.node) all ≡ take (i + 1) left) (sym c.in_ok-push-in-Some.ensures.ok)
          (nodes_more c.loop-node.stuck one left i c.loop-node-test.true c.loop-node.invariant.nodes why.0);
    }

pub returns : goal.returns
returns c =
    refusal_lawful c.args.plans.now.old.now c.args.plans.now.new.now c.args.done.now c.args.left.now c.args.steps c.loop-node.stuck
    c.requires.none c.requires.split c.requires.steps c.requires.done c.requires.sets c.loop-node.invariant.each
    (c.loop-node.invariant.nodes ∙ take_all c.loop-node.node-index c.args.left.now c.loop-node-test.false)
