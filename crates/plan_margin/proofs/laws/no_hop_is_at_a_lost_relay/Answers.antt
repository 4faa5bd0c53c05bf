use Rattle.plan_margin.proofs.Relays.{hops_are_up}
use Rattle.plan_margin.proofs.laws.no_hop_is_at_a_lost_relay.Goals as goal

pub returns : goal.returns
returns c = λ plan marks spot is up. hops_are_up plan is marks 14 spot up
