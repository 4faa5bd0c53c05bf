use Rattle.std.proofs.Common.{◌≡◌, subst}
use Rattle.chain_world.specs.Kept.{network_of}
use Rattle.chain_world.specs.Running.{sections_of}
use Rattle.chain_call.specs.Course.{Course, world_at}
use Rattle.chain_call.proofs.course.Course.sections.Goals as goal

pub returns : goal.returns
returns c = subst (λ (k : Course). c.sections.result ≡ sections_of (network_of k.plan) (world_at k)) c.self.view_is c.sections.ensures
