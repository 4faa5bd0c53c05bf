use Rattle.std.proofs.Common.{◌≤◌, List, length, sym, subst}
use Rattle.plan_change.specs.declared.mixed_hop.MixedHop.{MixedHop}
use Rattle.plan_change.specs.declared.turn.Turn.{Turn}
use Rattle.order_report.specs.Orders.{HasTurns}
use Rattle.order_report.proofs.stuck.put_why.Goals as goal

pub put_mixed_hops-requires : goal.put_mixed_hops-requires
put_mixed_hops-requires c =
    subst (λ (turns : List Turn). length c.as_slice.result.now ≤ length turns) (sym c.as_slice-in-Broken.ensures)
    (subst (λ (hops : List MixedHop). length hops ≤ length c.in-Broken.turns) (sym c.as_slice.ensures)
    (subst HasTurns c.in-Broken.is c.requires))
