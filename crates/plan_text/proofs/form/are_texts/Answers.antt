use Rattle.plan_text.specs.Shape.{is_text}
use Rattle.plan_text.proofs.Elements.{each_element}
use Rattle.plan_text.proofs.form.are_texts.Goals as goal

pub returns-in-Some : goal.returns-in-Some
returns-in-Some c = each_element is_text _ _ _ _ c.as_slice.ensures.value c.in-Some.ensures c.all_texts.ensures
