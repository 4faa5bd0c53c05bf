-- The words of the command that says how many losses there can be before a title of a cover is stopped.
use Rattle.std.specs.Prelude.{ℕ, List, [], ◌∷◌, Option, None}
use Rattle.std.specs.Prelude.{option_and_then, option_map}
use Rattle.std.specs.Prelude.{if◌then◌else◌, codes}
use Rattle.std.specs.Str.{bytes_eq}
use Rattle.plan_margin.specs.declared.loss_kinds.LossKinds.{LossKinds}
use Rattle.plan_margin.specs.declared.loss_kinds.LossKinds.TheVariants.{Points, PointsAndSubsystems}
use Rattle.plan_model.specs.declared.limits.Limits.{Limits}
use Rattle.sccp_plans.specs.Margin.{limit_in}
use Rattle.sccp_tool.specs.Task.{Task, Margin}
use Rattle.sccp_work.specs.PlanFile.{plan_file}
use Rattle.trace_text.specs.Forms.{file_name}

unfoldable pub margin_with : Limits → LossKinds → List ℕ → List ℕ → Option Task
margin_with limits kinds name losses =
    option_and_then (λ n. option_map (λ l. Margin (plan_file n limits) l) (limit_in kinds losses)) (file_name name)

-- if subsystems count as well, the last word says so
unfoldable pub margin_of_kinds : Limits → List ℕ → List ℕ → List ℕ → Option Task
margin_of_kinds limits name losses kinds =
    if bytes_eq kinds (codes "subsystems") then margin_with limits PointsAndSubsystems name losses else None

-- PLAN LOSSES, or PLAN LOSSES subsystems
unfoldable pub margin_words : Limits → List (List ℕ) → Option Task
margin_words limits (name ∷ losses ∷ []) = margin_with limits Points name losses
margin_words limits (name ∷ losses ∷ kinds ∷ []) = margin_of_kinds limits name losses kinds
margin_words limits words = None
