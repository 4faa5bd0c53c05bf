use Rattle.std.proofs.Common.{◌≡◌, ◌∙◌, length, sym, ap, subst}
use Rattle.plan_model.specs.Network.{Network}
use Rattle.made_load.specs.Loads.{Load, all_passed, begun, IsAfter}
use Rattle.made_load.specs.Relays.{load_plan}
use Rattle.made_load.proofs.Passing.{passed_after}
use Rattle.made_load.proofs.Sending.{of_eight, stands_after}
use Rattle.made_load.proofs.load.part_counts.Goals as goal

pub pass_all-requires-clause-nodes : goal.pass_all-requires-clause-nodes
pass_all-requires-clause-nodes c = ap (λ (p : Network). length p.nodes) c.plan-2.ensures.value
    ∙ of_eight c.args.accepted.now.plan c.args.number c.requires

pub pass_all-requires-clause-states : goal.pass_all-requires-clause-states
pass_all-requires-clause-states c =
    ap (λ (l : Load). length l.states) (c.in_ok-load.ensures ∙ ap (λ p. begun c.args.number p) c.plan.ensures.value)
    ∙ (stands_after c.args.accepted.now.plan c.args.number 0 c.requires).states

pub send_all-requires-clause-nodes : goal.send_all-requires-clause-nodes
send_all-requires-clause-nodes c = of_eight c.args.accepted.now.plan c.args.number c.requires

pub send_all-requires-clause-after : goal.send_all-requires-clause-after
send_all-requires-clause-after c =
    let number = c.args.number in
    let from = c.args.from in
    let plan = load_plan number in
    let whole : c.pass_all.new.self ≡ all_passed plan from 0 (begun number plan) =
    c.in_ok-pass_all.ensures ∙ ap (λ p. all_passed p from 0 c.in_ok-load.load) (c.plan-2.ensures.value ∙ c.requires)
    ∙ ap (λ l. all_passed plan from 0 l) (c.in_ok-load.ensures ∙ ap (λ p. begun number p) (c.plan.ensures.value ∙ c.requires)) in
    subst (IsAfter from) (sym whole) (passed_after number from)
