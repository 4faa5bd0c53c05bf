use Rattle.plan_text.specs.Shape.{cover_shape}
use Rattle.plan_text.proofs.Elements.{each_table}
use Rattle.plan_text.proofs.shape.covers_shape.Goals as goal

pub returns-in-Some : goal.returns-in-Some
returns-in-Some c = each_table cover_shape _ _ _ _ _ c.as_slice.ensures.value c.in-Some.ensures c.each_cover.ensures
