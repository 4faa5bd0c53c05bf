-- Jobs that all go under one plan, and the answers of blocks of them.
use Rattle.std.specs.Prelude.{◌≡◌, ◌<◌, ℕ, List, All, drop, length, map, take}
use Rattle.plan_check.specs.Verified.{Verified}
use Rattle.relay_net.specs.declared.job.Job.{Job}
use Rattle.relay_net.specs.declared.served.Served.{Served}
use Rattle.relay_net.specs.States.{State}
use Rattle.live_plan.specs.Plans.{nodes_of}
use Rattle.live_plan.specs.Routed.{journey_under}
use Rattle.live_plan.specs.declared.blocks.Block.{Block}
use Rattle.live_plan.specs.declared.setting.Setting.{Setting}

-- the answer of a job under this plan, which has this number
abbrev pub answer_under : ℕ → Verified → List State → Job → Served
answer_under number plan states job = record { number = number; journey = journey_under plan states job }

-- the same under the plan of a setting
abbrev pub answer_in : Setting → Job → Served
answer_in s = answer_under s.number s.plan.now s.states.now

-- each job enters at a node of the setting's plan
abbrev pub EnterIn : Setting → List Job → Type 0
EnterIn s = All (λ job. job.entry < nodes_of s.plan.now)

-- a block has the answers of the jobs that follow one another from its place on
abbrev pub HasAnswers : (Job → Served) → List Job → Block → Type 0
HasAnswers answer jobs block = block.answers ≡ map answer (take (length block.answers) (drop block.from jobs))
