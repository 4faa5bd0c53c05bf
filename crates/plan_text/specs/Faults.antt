-- Which fault of a plan text says that memory ran out.
use Rattle.std.specs.Prelude.{Bool, true, false}
use Rattle.plan_model.specs.declared.plan_fault.PlanFault.{PlanFault}
use Rattle.plan_model.specs.declared.plan_fault.PlanFault.TheVariants.{NotToml, WrongShape, BadValue, Repeated, UnknownNode, RelayToSelf}
use Rattle.plan_model.specs.declared.plan_fault.PlanFault.TheVariants.{Rule, NoCover, Limit, BadCover, OutOfMemory}

abbrev pub is_memory : PlanFault → Bool
is_memory OutOfMemory = true
is_memory NotToml = false
is_memory (WrongShape place) = false
is_memory (BadValue place) = false
is_memory (Repeated place) = false
is_memory (UnknownNode place) = false
is_memory (RelayToSelf place) = false
is_memory (Rule node fault) = false
is_memory NoCover = false
is_memory (Limit counted) = false
is_memory (BadCover place) = false
