-- The file of a plan, and the limits under which it is read.
use Rattle.std.specs.Prelude.{ℕ, List}
use Rattle.plan_model.specs.Limits.{standard}
use Rattle.plan_model.specs.declared.limits.Limits.{Limits}

pub record PlanFile : Type 0 where
  pub name : List ℕ
  pub limits : Limits

abbrev pub plan_file : List ℕ → Limits → PlanFile
plan_file name limits = record { name = name; limits = limits }

-- any other file that is read whole has the most octets of a plan's file under the standard limits
abbrev pub plain : List ℕ → PlanFile
plain name = plan_file name standard
