-- The words of the command that lists what no covered title of a plan can use.
use Rattle.std.specs.Prelude.{ℕ, List, [], ◌∷◌, Option, None, option_map}
use Rattle.plan_model.specs.declared.limits.Limits.{Limits}
use Rattle.sccp_tool.specs.Task.{Task, Unused}
use Rattle.sccp_work.specs.PlanFile.{plan_file}
use Rattle.trace_text.specs.Forms.{file_name}

-- PLAN
unfoldable pub unused_words : Limits → List (List ℕ) → Option Task
unused_words limits (name ∷ []) = option_map (λ n. Unused (plan_file n limits)) (file_name name)
unused_words limits words = None
