use Rattle.std.proofs.Common.{◌∙◌, sym, ap, subst}
use Rattle.std.specs.List.{All}
use Rattle.plan_model.specs.Faults.{HasFewDigits}
use Rattle.plan_model.specs.Network.{IsNode, IsPlan, network}
use Rattle.made_load.specs.Relays.{load_plan, relays}
use Rattle.made_load.proofs.Faultless.{sound_relays, few_digits, never}
use Rattle.made_load.proofs.relays.load_plan.Goals as goal

pub build-requires-clause-nodes : goal.build-requires-clause-nodes
build-requires-clause-nodes c = subst (All IsNode) (sym c.in_ok-nodes.ensures) (sound_relays c.args.number)

pub build-requires-clause-covers : goal.build-requires-clause-covers
build-requires-clause-covers c = subst (All HasFewDigits) (sym c.in_ok-covers.ensures) few_digits

pub unreachable-requires : goal.unreachable-requires
unreachable-requires c = never c.args.number c.in_ok-nodes.nodes c.in_ok-covers.covers c.in-Err.field-0 c.in_ok-nodes.ensures
    c.in_ok-covers.ensures c.in-Err.ensures.fault

pub returns-clause-plan : goal.returns-clause-plan
unfolding load_plan
returns-clause-plan c = c.in-Ok.ensures.plan ∙ ap (λ nodes. network nodes c.in_ok-covers.covers) c.in_ok-nodes.ensures
    ∙ ap (λ covers. network (relays c.args.number) covers) c.in_ok-covers.ensures

pub returns-clause-sound : goal.returns-clause-sound
returns-clause-sound c = subst IsPlan (sym c.in-Ok.ensures.plan) c.in-Ok.ensures.sound
