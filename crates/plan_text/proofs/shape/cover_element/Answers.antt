use Rattle.plan_text.specs.Shape.{cover_shape}
use Rattle.plan_text.proofs.Elements.{of_table}
use Rattle.plan_text.proofs.shape.cover_element.Goals as goal

pub returns-in-Some : goal.returns-in-Some
returns-in-Some c = of_table (cover_shape c.args.i) _ _ _ _ c.in-Some.ensures c.cover_shape.ensures
