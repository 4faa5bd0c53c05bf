-- The words of the command that gives a verdict on each cover of a plan by itself.
use Rattle.std.specs.Prelude.{ℕ, List, [], ◌∷◌, Option, None, option_map}
use Rattle.plan_model.specs.declared.limits.Limits.{Limits}
use Rattle.sccp_tool.specs.Task.{Task, Covers}
use Rattle.sccp_work.specs.PlanFile.{plan_file}
use Rattle.trace_text.specs.Forms.{file_name}

-- PLAN
unfoldable pub covers_words : Limits → List (List ℕ) → Option Task
covers_words limits (name ∷ []) = option_map (λ n. Covers (plan_file n limits)) (file_name name)
covers_words limits words = None
