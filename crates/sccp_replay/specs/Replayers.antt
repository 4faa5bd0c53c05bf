-- What the code of a replay keeps, as a `Standing`, and what it makes of a batch.
use Rattle.std.specs.Prelude.{◌≡◌, ℕ, ◌+◌, ◌<◌, ◌≤◌, List, [], ◌∷◌, ◌++◌, length, map}
use Rattle.std.specs.List.{All, filter_map}
use Rattle.plan_model.specs.Network.{Network}
use Rattle.relay_net.specs.States.{State, markings_of}
use Rattle.relay_net.specs.declared.job.Job.{Job}
use Rattle.relay_net.specs.declared.served.Served.{Served}
use Rattle.sccp_base.specs.declared.mark.Mark.{Mark}
use Rattle.sccp_report.specs.Served.{served_text}
use Rattle.relay_net.specs.Batches.{CanBeDone, Incoming, applied_after, due_after}
use Rattle.sccp_work.specs.Numbers.{AreNumbers}
use Rattle.sccp_replay.specs.Incoming.{incoming_in}
use Rattle.sccp_replay.specs.Replay.{Standing, Settled, prints, routes, Told, accepted_before, batch_of, journey_by}
use Rattle.sccp_replay.specs.Routings.{ArePlans}
use Rattle.sccp_replay.specs.declared.settled.Settled.TheVariants.{Prints, Routes}
use Rattle.sccp_replay.specs.declared.settled as code

-- each plan has as many nodes as there are states
pub record IsStanding (s : Standing) : Type 0 where
  pub plans : ArePlans s.first s.later
  pub states : length s.states ≡ length s.first.nodes

-- a settled line of the code
abbrev pub settled_in : code.Settled.Settled → Settled
settled_in (Prints text) = prints text
settled_in (Routes line x before) = routes line (incoming_in x) before

-- the message arrives at a node of the plan
abbrev pub ComesToNode : Network → code.Settled.Settled → Type 0
ComesToNode plan (Prints text) = Unit {0}
ComesToNode plan (Routes line x before) = x.entry < length plan.nodes

-- each message arrives at a node of the plan, and a batch has no more lines than a trace
pub record MayBeRouted (plan : Network) (settled : List code.Settled.Settled) : Type 0 where
  pub fits : All (ComesToNode plan) settled
  pub few : length settled ≤ 1000000

-- under which plans one worker takes the messages
abbrev pub numbers_of : List Settled → List ℕ
numbers_of settled = filter_map accepted_before settled

-- ---- the messages of a batch

abbrev pub job_of : ℕ → Incoming → Job
job_of index x = record { index = index; entry = x.entry; origin = x.origin; octets = x.octets }

-- the messages that are to be routed, counted from a number on
abbrev pub jobs_from : ℕ → List Settled → List Job
jobs_from index [] = []
jobs_from index (prints text ∷ settled) = jobs_from index settled
jobs_from index (routes line x before ∷ settled) = job_of index x ∷ jobs_from (index + 1) settled

abbrev pub number_in : Served → ℕ
number_in served = served.number

-- A message had its journey under the plan of the number that the answer names. What the journey's end leaves to be done can
-- be done.
pub record IsRouted (at : Standing) (markings : List (List Mark)) (x : Incoming) (served : Served) : Type 0 where
  pub journey : served.journey ≡ journey_by at markings x served.number
  pub due : CanBeDone (length at.first.nodes) (due_after x served.journey.path served.journey.end)

-- so each message had, in order
abbrev pub AreRouted : Standing → List (List Mark) → List Settled → List Served → Type 0
AreRouted at markings [] [] = Unit {0}
AreRouted at markings [] (one ∷ served) = ⊥
AreRouted at markings (prints text ∷ settled) served = AreRouted at markings settled served
AreRouted at markings (routes line x before ∷ settled) [] = ⊥
AreRouted at markings (routes line x before ∷ settled) (one ∷ served) = IsRouted at markings x one × AreRouted at markings settled served

-- a batch is routed: its messages under what the nodes held prohibited before it, and under numbers that its workers may take
pub record RoutesBatch (at at' : Standing) (settled : List Settled) (served : List Served) : Type 0 where
  pub routed : AreRouted at' (markings_of at.states) settled served
  pub numbers : AreNumbers (batch_of at at' settled) (map number_in served)

-- what one worker leaves of the answers when it reaches a line
abbrev pub RoutesLine : Standing → List (List Mark) → Settled → List Served → List Served → Type 0
RoutesLine at markings (prints text) before after = after ≡ before
RoutesLine at markings (routes line x number) before after = (one : Served) × (after ≡ before ++ one ∷ []) × (one.number ≡ number)
    × IsRouted at markings x one

-- the text of a settled line, if these answers are left

abbrev pub CanFollow : ℕ → Settled → List Served → Type 0
CanFollow nodes (prints text) served = Unit {0}
CanFollow nodes (routes line x before) [] = ⊥
CanFollow nodes (routes line x before) (one ∷ served) = CanBeDone nodes (due_after x one.journey.path one.journey.end)

abbrev pub told_of : Network → List State → Settled → List Served → Told
told_of first states (prints text) served = record { text = text; states = states }
told_of first states (routes line x before) [] = record { text = []; states = states }
told_of first states (routes line x before) (one ∷ served) =
    let a = applied_after first states x one.journey in
    record { text = served_text first line one.number one.journey a.outcomes; states = a.states }

abbrev pub left_of : Settled → List Served → List Served
left_of (prints text) served = served
left_of (routes line x before) [] = []
left_of (routes line x before) (one ∷ served) = served
