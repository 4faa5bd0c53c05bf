-- Going along the elements of an array of tables.
use Rattle.std.proofs.Common.{ℕ, List, map, drop}
use Rattle.toml.specs.Data.{Members}
use Rattle.toml.specs.View.{view}
use Rattle.toml.specs.declared.value.Value.{Value}
use Rattle.plan_model.specs.declared.place.Place.{Place}
use Rattle.plan_text.specs.Shape.{Shape, elements_shape}

-- the shape of the elements from one on
abbrev pub from : (ℕ → Members → Shape) → Place → ℕ → List Value → Shape
from shape at i values = elements_shape shape at i (map view (drop i values))
