use Rattle.std.proofs.Common.{[], sym, ◌∙◌, ap, subst}
use Rattle.relay_net.specs.States.{first_states}
use Rattle.sccp_replay.specs.Replayers.{IsStanding}
use Rattle.sccp_replay.specs.Routings.{standing}
use Rattle.sccp_replay.proofs.ReplayerLemmas.{first_plans, first_standing}
use Rattle.sccp_replay.proofs.replayer.Replayer.new.Goals as goal

pub invariant_of-result : goal.invariant_of-result
invariant_of-result g c =
    subst (λ r. IsStanding (standing r c.in-Ok.net)) (sym c.in-Ok-new.ensures)
    (first_standing c.args.first.plan [] c.in-Ok.net c.args.workers (first_plans c.args.first.plan c.plan.ensures.verified.plan)
    (c.in-Ok.ensures ∙ ap first_states c.plan.ensures.value))
