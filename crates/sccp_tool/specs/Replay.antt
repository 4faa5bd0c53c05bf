-- The words of the command that replays a trace.
use Rattle.std.specs.Prelude.{ℕ, List, [], ◌∷◌, Option, None, option_and_then}
use Rattle.std.specs.Option.{option_map}
use Rattle.plan_model.specs.declared.limits.Limits.{Limits}
use Rattle.trace_text.specs.Forms.{file_name}
use Rattle.sccp_replay.specs.Workers.{workers_in}
use Rattle.sccp_tool.specs.Task.{Task, Replay}
use Rattle.sccp_work.specs.PlanFile.{plan_file}

-- two file names, and the number of workers
unfoldable pub replay_of : Limits → List ℕ → List ℕ → List ℕ → Option Task
replay_of limits plan trace workers =
    option_and_then (λ p. option_and_then (λ t. option_map (λ n. Replay (plan_file p limits) t n) (workers_in workers)) (file_name trace))
    (file_name plan)

-- PLAN TRACE WORKERS
unfoldable pub replay_words : Limits → List (List ℕ) → Option Task
replay_words limits (plan ∷ trace ∷ workers ∷ []) = replay_of limits plan trace workers
replay_words limits words = None
