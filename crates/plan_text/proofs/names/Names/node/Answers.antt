use Rattle.std.proofs.Common.{Some, sym, ◌∙◌, ap, map, slice_index_or}
use Rattle.toml.specs.View.{view}
use Rattle.plan_text.specs.Targets.{is_named}
use Rattle.plan_text.proofs.FirstPlaces.{found_here, find_nowhere}
use Rattle.plan_text.proofs.names.Names.node.Goals as goal

pub returns-in-Some : goal.returns-in-Some
returns-in-Some c =
    let place = c.in-Some.place in
    let default = c.index-self-place.result in
    ap (λ xs. Some (view (slice_index_or xs place default))) c.self.view_is
    ∙ found_here (is_named c.args.name.now) view c.args.self.now place default c.in-Some.ensures.inside c.in-Some.ensures.place

pub returns-in-None : goal.returns-in-None
returns-in-None c = sym (find_nowhere (is_named c.args.name.now) (map view c.args.self.now) (sym c.in-None.ensures.place))
