use Rattle.std.proofs.Common.{◌∙◌, ap, map}
use Rattle.std.specs.List.{position}
use Rattle.toml.specs.View.{view}
use Rattle.plan_text.specs.Targets.{is_named}
use Rattle.plan_text.proofs.FirstPlaces.{found_inside}
use Rattle.plan_text.proofs.names.Names.place.Goals as goal

pub returns-clause-inside : goal.returns-clause-inside
returns-clause-inside c =
    let name = c.args.name.now in
    found_inside (is_named name) view c.args.self.now c.copied.result (c.copied.ensures ∙ (c.get.ensures.value
    ∙ (c.self.invariant name ∙ ap (λ xs. position (is_named name) (map view xs)) c.self.view_is)))
