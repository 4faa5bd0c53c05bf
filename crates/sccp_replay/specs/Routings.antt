-- Who routes the messages of a replay, and under which plans.
use Rattle.std.specs.Prelude.{◌≡◌, ℕ, ◌+◌, ◌^◌, ◌<◌, ◌≤◌, List, ◌∷◌, ◌++◌, length, map}
use Rattle.std.specs.List.{All}
use Rattle.plan_check.specs.Verified.{Verified}
use Rattle.plan_model.specs.Network.{Network, IsPlan}
use Rattle.relay_net.specs.States.{State}
use Rattle.sccp_replay.specs.Replay.{Standing}

-- how many workers there are, and the plans that were accepted so far
pub record Routing : Type 0 where
  pub workers : ℕ
  pub first : Verified
  pub later : List Verified

abbrev pub routing : ℕ → Verified → List Verified → Routing
routing workers first later = record { workers = workers; first = first; later = later }

abbrev pub plan_in : Verified → Network
plan_in accepted = accepted.plan

-- the state of a replay with it
abbrev pub standing : Routing → List State → Standing
standing r states = record { workers = r.workers; first = r.first.plan; later = map plan_in r.later; states = states }

-- with plans of a batch that are not published yet
abbrev pub ahead : Standing → List Verified → Standing
ahead at coming = record at { later = at.later ++ map plan_in coming }

-- a plan with this number of nodes
abbrev pub IsPlanOf : ℕ → Network → Type 0
IsPlanOf nodes plan = IsPlan plan × (length plan.nodes ≡ nodes)

-- each plan has as many nodes as the first, and its number has four octets
pub record ArePlans (first : Network) (later : List Network) : Type 0 where
  pub few : length later + 2 < 2 ^ 32
  pub sound : IsPlan first
  pub alike : All (IsPlanOf (length first.nodes)) later

-- one more later plan may follow: each has a line of its own in a trace of at most 1,000,000 lines
pub record HasRoom (first : Network) (later : List Network) : Type 0 where
  pub plans : ArePlans first later
  pub few : length later < 1000000

-- at most one more followed
pub record AtMostOneMore (first : Network) (before later : List Network) : Type 0 where
  pub plans : ArePlans first later
  pub few : length later ≤ length before + 1

abbrev pub IsRouting : Routing → Type 0
IsRouting r = ArePlans r.first.plan (map plan_in r.later)

-- of several workers: the first plan begins the publisher's list, and each plan has this number of nodes
pub record IsCrew (plans : List Verified) (nodes workers : ℕ) (first : Verified) (later : List Verified) : Type 0 where
  pub several : 1 < workers
  pub few : workers ≤ 16
  pub begins : plans ≡ first ∷ later
  pub nodes_are : nodes ≡ length first.plan.nodes
  pub plans_are : IsRouting (routing workers first later)
