use Rattle.std.proofs.Common.{sym, ap, map}
use Rattle.std.specs.Option.{option_map}
use Rattle.plan_model.specs.declared.place.Place.TheVariants.{Row as AtRow}
use Rattle.toml.specs.View.{view}
use Rattle.plan_text.specs.Tests.{lost_at}
use Rattle.plan_text.proofs.Seen.{first_here, first_next, first_end}
use Rattle.plan_text.proofs.unknown.lost_in_rows.Goals as goal

pub returns-in-Some : goal.returns-in-Some
returns-in-Some c =
    first_here view (lost_at (map view c.args.names.now) c.args.i) c.args.rows.now c.loop-j.j c.index-rows-j.result _ _ c.loop-j-test.true
    (sym c.index-rows-j.is) (ap (option_map (AtRow c.args.i c.loop-j.j)) (sym c.in-Some.ensures)) c.loop-j.invariant

pub loop-j-preserved : goal.loop-j-preserved
loop-j-preserved c =
    first_next view (lost_at (map view c.args.names.now) c.args.i) c.args.rows.now c.loop-j.j c.index-rows-j.result _ c.loop-j-test.true
    (sym c.index-rows-j.is) (ap (option_map (AtRow c.args.i c.loop-j.j)) (sym c.in_default.ensures)) c.loop-j.invariant

pub returns : goal.returns
returns c = first_end view
    (lost_at (map view c.args.names.now) c.args.i) c.args.rows.now c.loop-j.j _ c.loop-j-test.false c.loop-j.invariant
