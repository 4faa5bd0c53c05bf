use Rattle.plan_classes.proofs.Ordered.{class_total, same_class}
use Rattle.plan_classes.proofs.laws.classes_are_ordered.Goals as goal

pub returns-clause-total : goal.returns-clause-total
returns-clause-total c = class_total

pub returns-clause-ties : goal.returns-clause-ties
returns-clause-ties c = same_class
