use Rattle.std.specs.Prelude.{List, length}
use Rattle.std.proofs.Common.{sym, subst}
use Rattle.plan_change.specs.declared.mixed_hop.MixedHop.{MixedHop}
use Rattle.plan_change.specs.Changes.{IsLawfulUnder}
use Rattle.plan_order.specs.Steps.{during}
use Rattle.plan_order.specs.Refusing.{held_of, Refuses}
use Rattle.plan_order.proofs.Fitting.{bad_refuses}
use Rattle.plan_order.proofs.trying.keep_route.Goals as goal

pub keep-requires-clause-refuses : goal.keep-requires-clause-refuses
keep-requires-clause-refuses c =
    let old = c.args.plans.now.old.now in
    let new = c.args.plans.now.new.now in
    let may = during (length old.nodes) c.args.done.now c.args.step.now in
    subst (λ (hops : List MixedHop). Refuses old new (held_of hops)) (sym c.as_slice.ensures)
    (bad_refuses old new may c.in-Broken.old_cover c.in-Broken.new_cover c.in-Broken.spot c.in-Broken.turns c.in-Broken.hops
    c.in-Broken.kind (subst (IsLawfulUnder may old new) c.in-Broken.is c.requires.lawful).0)
