-- The words of the command that gives an order in which relays can be given the second of two plans.
use Rattle.std.specs.Prelude.{ℕ, List, [], ◌∷◌, Option, None, option_and_then, option_map}
use Rattle.plan_model.specs.declared.limits.Limits.{Limits}
use Rattle.trace_text.specs.Forms.{file_name}
use Rattle.sccp_work.specs.PlanFile.{plan_file}
use Rattle.sccp_tool.specs.Task.{Task, Order as asked}

unfoldable pub order_of : Limits → List ℕ → List ℕ → Option Task
order_of limits old new =
    option_and_then (λ o. option_map (λ n. asked (plan_file o limits) (plan_file n limits)) (file_name new)) (file_name old)

-- OLD NEW
unfoldable pub order_words : Limits → List (List ℕ) → Option Task
order_words limits (old ∷ new ∷ []) = order_of limits old new
order_words limits words = None
