-- How many nodes, rows in all and covers a text has, which is tested before any value is read.
use Rattle.std.specs.Prelude.{ℕ, List, length, sum_by, codes, Option}
use Rattle.toml.specs.Data.{Data}
use Rattle.plan_model.specs.declared.limits.Limits.{Limits}
use Rattle.plan_model.specs.declared.plan_fault.Counted.{Counted}
use Rattle.plan_model.specs.Faults.{first_limit}
use Rattle.plan_text.specs.Document.{elements_at}

abbrev pub row_count : Data → ℕ
row_count node = length (elements_at (codes "row") node)

-- more nodes, rows in all, or covers than the limits allow
abbrev pub too_many : Limits → List Data → List Data → Option Counted
too_many limits nodes covers = first_limit limits (length nodes) (sum_by row_count nodes) (length covers)
