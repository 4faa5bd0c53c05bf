use Rattle.std.proofs.Common.{map, refl, ap, ◌∙◌}
use Rattle.sccp_scrc.specs.Arriving.{point_of}
use Rattle.chain_world.proofs.Lined.{same_line, points_of}
use Rattle.chain_world.proofs.lines.line_over.Goals as goal

pub returns-clause-value : goal.returns-clause-value
returns-clause-value c =
    same_line _ _ _ _ _ _ _ _ _ _ _ _ (ap (map (point_of c.args.plan.now)) c.in_ok-path.ensures
    ∙ points_of c.args.plan.now c.args.path.now) refl c.in_ok-forth_in.ensures c.in_ok-forth_out.ensures c.in_ok-back_in.ensures
    c.in_ok-back_out.ensures
