use Rattle.std.proofs.Common.{◌≡◌, map}
use Rattle.toml.specs.View.{view}
use Rattle.plan_model.specs.declared.key.Key.TheVariants.{Cover}
use Rattle.plan_model.specs.declared.place.Place.TheVariants.{Top as AtTop}
use Rattle.plan_text.specs.Shape.{elements_shape, cover_shape}
use Rattle.plan_text.proofs.Along.{from}
use Rattle.plan_text.proofs.shape.each_cover.Given as goal

-- the first fault is found from this cover on
abbrev pub invariant-loop-i : goal.invariant-loop-i
invariant-loop-i l = from cover_shape (AtTop Cover) l.i l.covers ≡ elements_shape cover_shape (AtTop Cover) 0 (map view l.covers)
