use Rattle.std.proofs.Common.{◌∙◌, ap}
use Rattle.std.specs.Option.{option_map_or}
use Rattle.plan_text.specs.Targets.{point_at, point_of}
use Rattle.plan_text.proofs.targets.point_of.Goals as goal

pub returns-in-Some : goal.returns-in-Some
unfolding point_of
returns-in-Some c = c.point_at.ensures ∙ ap (λ o. option_map_or point_at o 0) c.in-Some.ensures

pub returns-in-None : goal.returns-in-None
unfolding point_of
returns-in-None c = (rw c.unwrap.ensures at c.new.ensures).1 ∙ ap (λ o. option_map_or point_at o 0) c.in-None.ensures
