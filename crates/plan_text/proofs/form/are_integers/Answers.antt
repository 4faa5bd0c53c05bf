use Rattle.plan_text.specs.Shape.{is_integer}
use Rattle.plan_text.proofs.Elements.{each_element}
use Rattle.plan_text.proofs.form.are_integers.Goals as goal

pub returns-in-Some : goal.returns-in-Some
returns-in-Some c = each_element is_integer _ _ _ _ c.as_slice.ensures.value c.in-Some.ensures c.all_integers.ensures
