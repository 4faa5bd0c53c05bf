use Rattle.std.proofs.Common.{◌≡◌, ◌++◌, drop}
use Rattle.std.specs.Prelude.{Ok}
use Rattle.std.specs.List.{flat_map}
use Rattle.sccp_message.specs.declared.message.Message.{Message}
use Rattle.sccp_message.specs.Reading.{reading}
use Rattle.relay_ways.specs.Candidates.{step_candidates, turn_steps}
use Rattle.relay_ways.proofs.would_send.add_steps.Given as goal

-- the candidates so far, then those of the steps ahead, are those of all
abbrev pub invariant-loop-step : goal.invariant-loop-step
invariant-loop-step l = (m : Message) → reading l.at.octets.now ≡ Ok m
    → l.found ++ flat_map (step_candidates l.at.plan.now l.at.node l.at.origin m l.address)
    (drop l.step-index (turn_steps l.at.plan.now l.spot))
    ≡ l.fn.found ++ flat_map (step_candidates l.at.plan.now l.at.node l.at.origin m l.address) (turn_steps l.at.plan.now l.spot)
