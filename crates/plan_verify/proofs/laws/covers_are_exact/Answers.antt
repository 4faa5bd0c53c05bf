use Rattle.plan_verify.proofs.ByCover.{accepted_by_covers, refused_by_covers}
use Rattle.plan_verify.proofs.laws.covers_are_exact.Goals as goal

pub returns-clause-accepted : goal.returns-clause-accepted
returns-clause-accepted c = accepted_by_covers

pub returns-clause-refused : goal.returns-clause-refused
returns-clause-refused c = refused_by_covers
