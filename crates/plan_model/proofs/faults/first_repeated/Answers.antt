use Rattle.std.proofs.Common.{sym, ap}
use Rattle.std.specs.Option.{option_map}
use Rattle.plan_model.specs.declared.place.Place.TheVariants.{Node as AtNode}
use Rattle.plan_model.specs.Faults.{repeated_at}
use Rattle.plan_rules.proofs.FirstOf.{first_of_here, first_of_next, first_of_end}
use Rattle.plan_model.proofs.faults.first_repeated.Goals as goal

pub returns-in-Some : goal.returns-in-Some
returns-in-Some g c =
    first_of_here (repeated_at g.N.Named.own_name g.N.Named.own_point c.args.nodes.now) _ c.loop-i.i c.index-nodes-i.result _ _
    c.loop-i-test.true (sym c.index-nodes-i.is)
    (ap (option_map (AtNode c.loop-i.i)) (sym c.in-Some.ensures)) c.loop-i.invariant

pub loop-i-preserved : goal.loop-i-preserved
loop-i-preserved g c =
    first_of_next (repeated_at g.N.Named.own_name g.N.Named.own_point c.args.nodes.now) _ c.loop-i.i c.index-nodes-i.result _
    c.loop-i-test.true (sym c.index-nodes-i.is)
    (ap (option_map (AtNode c.loop-i.i)) (sym c.in_default.ensures)) c.loop-i.invariant

pub returns : goal.returns
returns g c = first_of_end
    (repeated_at g.N.Named.own_name g.N.Named.own_point c.args.nodes.now) _ c.loop-i.i _ c.loop-i-test.false c.loop-i.invariant
