use Rattle.std.proofs.Common.{◌≡◌, subst}
use Rattle.chain_world.specs.Kept.{network_of}
use Rattle.chain_call.specs.Course.{Course}
use Rattle.chain_call.specs.Steps.{next_of}
use Rattle.chain_call.proofs.NextLink.{next_by}
use Rattle.chain_call.proofs.course.Course.next.Goals as goal

pub returns : goal.returns
unfolding next_of
returns c =
    subst (λ (k : Course). c.next.result ≡ next_of k) c.self.view_is
    (next_by (network_of c.self.inside.world.plan) c.self.inside.world.history c.next.result c.next.ensures.some c.next.ensures.none)
