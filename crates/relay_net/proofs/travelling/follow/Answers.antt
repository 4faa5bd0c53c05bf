use Rattle.std.specs.Prelude.{map}
use Rattle.std.proofs.Common.{◌≡◌, ◌++◌, IfOk, List, ℕ, Option, ap, subst}
use Rattle.sccp_scrc.specs.declared.arrival.Arrival.{Arrival}
use Rattle.sccp_scrc.specs.Passing.{ReadsAgain}
use Rattle.relay_net.specs.Journeys.{Trip}
use Rattle.relay_net.proofs.Passages.{read_trip}
use Rattle.relay_net.proofs.travelling.follow.Goals as goal

pub returns-in-Ok-clause-last : goal.returns-in-Ok-clause-last
returns-in-Ok-clause-last g c =
    let again : ReadsAgain c.in-Ok.message = record { message = c.in-Ok.ensures.kept; sound = c.in-Ok.ensures.sound } in
    let e = read_trip c.args.plan.now
    (map g.S.HoldsMarking.held c.args.states.now) c.most_arrivals_of.result c.args.incoming.now.entry c.args.incoming.now.origin
    c.args.incoming.now.octets.now
    c.in-Ok.message again c.in-Ok.ensures.exact c.most_arrivals_of.ensures in
    subst (λ (o : Option Arrival). IfOk c.travel.result (λ last. last ≡ o)) (ap (λ (x : Trip). x.last) e) c.travel.ensures.last

pub returns-in-Ok-clause-path : goal.returns-in-Ok-clause-path
returns-in-Ok-clause-path g c =
    let again : ReadsAgain c.in-Ok.message = record { message = c.in-Ok.ensures.kept; sound = c.in-Ok.ensures.sound } in
    let e = read_trip c.args.plan.now
    (map g.S.HoldsMarking.held c.args.states.now) c.most_arrivals_of.result c.args.incoming.now.entry c.args.incoming.now.origin
    c.args.incoming.now.octets.now
    c.in-Ok.message again c.in-Ok.ensures.exact c.most_arrivals_of.ensures in
    subst (λ (p : List ℕ). IfOk c.travel.result (λ last. c.travel.new.path ≡ c.args.path.now ++ p))
    (ap (λ (x : Trip). x.path) e) c.travel.ensures.path
