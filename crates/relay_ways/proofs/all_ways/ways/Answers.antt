use Rattle.std.proofs.Common.{◌≡◌, ◌++◌, ◌∙◌, List, ap, sym, subst}
use Rattle.std.specs.List.{All}
use Rattle.relay_ways.specs.Conditions.{IsPossible}
use Rattle.relay_ways.specs.Ways.{ways, AreWays}
use Rattle.relay_ways.specs.declared.way.Way.{Way}
use Rattle.relay_ways.proofs.WayLemmas.{ways_are}
use Rattle.relay_ways.proofs.all_ways.ways.Goals as goal

pub returns-clause-are : goal.returns-clause-are
returns-clause-are c =
    let same : c.add_all_ways.new.found ≡ ways c.args.at.now.plan.now c.args.at.now.node c.args.at.now.origin c.args.at.now.octets.now =
    c.in_ok-add_all_ways.ensures.added
    ∙ ap (λ xs. xs ++ ways c.args.at.now.plan.now c.args.at.now.node c.args.at.now.origin c.args.at.now.octets.now) c.new-found.ensures in
    subst (λ (xs : List Way). AreWays c.args.at.now.plan.now c.args.at.now.node c.args.at.now.origin c.args.at.now.octets.now xs) (sym same)
    (ways_are c.args.at.now.plan.now c.args.at.now.node c.args.at.now.origin c.args.at.now.octets.now c.nodes-nodes.ensures.sound
    c.args.at.now.inside)

pub returns-clause-possible : goal.returns-clause-possible
returns-clause-possible c =
    let same : c.add_all_ways.new.found ≡ ways c.args.at.now.plan.now c.args.at.now.node c.args.at.now.origin c.args.at.now.octets.now =
    c.in_ok-add_all_ways.ensures.added
    ∙ ap (λ xs. xs ++ ways c.args.at.now.plan.now c.args.at.now.node c.args.at.now.origin c.args.at.now.octets.now) c.new-found.ensures in
    subst (λ (xs : List Way). All (λ w. IsPossible w.condition) xs) (sym same) c.in_ok-add_all_ways.ensures.possible_each
