use Rattle.std.proofs.Common.{◌∙◌, ap}
use Rattle.std.specs.Option.{unwrap_or}
use Rattle.toml.specs.View.{view}
use Rattle.plan_text.specs.Targets.{is_named}
use Rattle.plan_text.specs.Covers.{node_place}
use Rattle.plan_text.proofs.Seen.{position_or_length}
use Rattle.plan_text.proofs.covers.node_place.Goals as goal

pub returns : goal.returns
unfolding node_place
returns c = c.unwrap_or.ensures ∙ (ap (unwrap_or c.place.result) c.count.ensures
    ∙ position_or_length (is_named c.args.name.now) view c.args.names.now c.place.result c.place.ensures.place)
