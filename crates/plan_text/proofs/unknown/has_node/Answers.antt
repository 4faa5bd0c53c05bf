use Rattle.std.proofs.Common.{◌∙◌, ap, map}
use Rattle.std.specs.Option.{is_some}
use Rattle.toml.specs.View.{view}
use Rattle.plan_text.specs.Targets.{is_named}
use Rattle.plan_text.specs.Tests.{has_node}
use Rattle.plan_text.proofs.FirstPlaces.{any_found}
use Rattle.plan_text.proofs.unknown.has_node.Goals as goal

pub returns : goal.returns
unfolding has_node
returns c = c.is_some.ensures ∙ (ap is_some c.place.ensures.place ∙ any_found (is_named c.args.name.now) (map view c.args.names.now))
