use Rattle.plan_text.proofs.Elements.{elements}
use Rattle.plan_text.proofs.document.elements_of.Goals as goal

pub returns-in-Some : goal.returns-in-Some
returns-in-Some c = rw c.as_slice.ensures.value (elements _ _ c.in-Some.ensures)
