use Rattle.std.specs.Prelude.{◌≡◌, ◌<◌, ◌++◌, ℕ, List, length, map}
use Rattle.std.proofs.Common.{sym, ◌∙◌, subst}
use Rattle.relay_net.specs.Journeys.{last_node, trip_of}
use Rattle.relay_net.proofs.Turns.{last_of_trip}
use Rattle.relay_net.proofs.travelling.trip.Goals as goal

pub returns-clause-within : goal.returns-clause-within
returns-clause-within g c =
    let states = map g.S.HoldsMarking.held c.args.states.now in
    let path : c.follow.new.path ≡ (trip_of c.args.plan.now states c.args.entry c.args.origin c.args.octets.now).path =
    c.in_ok-last.ensures.path
    ∙ (λ i. c.new-path.ensures i ++ (trip_of c.args.plan.now states c.args.entry c.args.origin c.args.octets.now).path) in
    subst (λ (nodes : List ℕ). last_node 0 nodes < length c.args.plan.now.nodes) (sym path)
    (last_of_trip c.args.plan.now states c.args.entry c.args.origin c.args.octets.now c.nodes-nodes.ensures.sound c.requires.entry)
