use Rattle.std.proofs.Common.{Option, sym, subst}
use Rattle.std.specs.Prelude.{◌↔◌, IsSomeAnd}
use Rattle.plan_model.specs.declared.cover.Cover.{Cover}
use Rattle.plan_model.specs.declared.spot.Spot.{Spot}
use Rattle.plan_model.specs.Covered.{Covers}
use Rattle.plan_classes.specs.Titles.{HasTitle}
use Rattle.plan_classes.proofs.Starting.{start_exact}
use Rattle.plan_classes.proofs.starts.start.Goals as goal

pub returns-clause-exact : goal.returns-clause-exact
returns-clause-exact c =
    subst (λ (o : Option Cover). IsSomeAnd o (λ cover. (spot : Spot) → HasTitle c.class_of.result spot ↔ Covers cover spot))
    (sym c.cover_at.ensures.value)
    (start_exact _ c.args.cover c.cover_at.result.now c.class_of.result c.cover_at.ensures.sound c.class_of.ensures)
