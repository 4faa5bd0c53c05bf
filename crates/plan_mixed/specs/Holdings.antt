-- What each relay may hold while relays are given another plan.
use Rattle.std.specs.Prelude.{ℕ, ◌≡◌, List, get_or}
use Rattle.plan_mixed.specs.declared.which.Which.{Which}
use Rattle.plan_mixed.specs.declared.which.Which.TheVariants as plans
use Rattle.plan_mixed.specs.declared.holding.Holding.{Holding}
use Rattle.plan_mixed.specs.declared.holding.Holding.TheVariants.{Old, New, Either}

-- the plan that a relay holds if a turn asks for this one: only a relay that may hold either does as it is asked
abbrev pub chosen : Holding → Which → Which
chosen Old which = plans.Old
chosen New which = plans.New
chosen Either which = which

-- what the relay at this place may hold: either plan, if nothing is said of it
abbrev pub may_hold : List Holding → ℕ → Holding
may_hold may node = get_or may node Either

-- the relay at this place may hold this plan
abbrev pub MayHold : List Holding → ℕ → Which → Type 0
MayHold may node which = chosen (may_hold may node) which ≡ which
