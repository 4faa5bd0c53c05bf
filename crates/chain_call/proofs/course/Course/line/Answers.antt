use Rattle.std.proofs.Common.{◌≡◌, IfOk, subst}
use Rattle.std.specs.Prelude.{option_map}
use Rattle.couple_chain.specs.Line.{line}
use Rattle.chain_world.specs.Kept.{network_of}
use Rattle.chain_world.specs.Staged.{told_line}
use Rattle.chain_call.specs.Course.{Course, world_at}
use Rattle.chain_call.proofs.course.Course.line.Goals as goal

pub returns : goal.returns
returns c =
    subst (λ (k : Course). IfOk c.line.result (λ l. option_map (told_line k.plan) l
    ≡ line (network_of k.plan) (world_at k) c.args.point c.args.reference)) c.self.view_is c.line.ensures.line
