-- The mixed routes of two plans of the same nodes stay within them, and have a turn for each hop.
use Rattle.std.specs.Prelude.{ℕ, ◌≡◌, ◌<◌, ◌≤◌, List, [], length, Option, Some, None, IfSome}
use Rattle.std.proofs.Common.{sym, subst}
use Rattle.plan_model.specs.declared.kind.Kind.{Kind}
use Rattle.plan_model.specs.declared.spot.Spot.{Spot}
use Rattle.plan_model.specs.Covered.{Covered}
use Rattle.plan_model.specs.Network.{Network, IsPlan}
use Rattle.plan_model.specs.Next.{next_of}
use Rattle.plan_model.specs.Routes.{StaysIn}
use Rattle.plan_model.specs.Steps.{step}
use Rattle.plan_mixed.specs.declared.which.Which.{Which}
use Rattle.plan_mixed.specs.declared.which.Which.TheVariants.{Old, New}
use Rattle.plan_mixed.specs.Mixed.{held}
use Rattle.plan_change.specs.declared.mixed_hop.MixedHop.{MixedHop}
use Rattle.plan_change.specs.declared.turn.Turn.{Turn}
use Rattle.plan_change.specs.declared.answer.Change.{Change}
use Rattle.plan_change.specs.declared.answer.Change.TheVariants.{Kept, Broken}
use Rattle.plan_change.specs.Changes.{IsLawfulChange, IsLongestOf}
use Rattle.plan_change.specs.Mixture.{made}
use Rattle.plan_change.proofs.Holdings.{bad_short}
use Rattle.sccp_report.proofs.InPlan.{step_in}

-- a step under either plan stays in the first
pub stays_in : (old new : Network) (s : Spot) (turn : Turn) → IsPlan old → IsPlan new → length old.nodes ≡ length new.nodes
    → StaysIn old (made old new turn s)
stays_in old new s turn is also same = by turn.which
  where
    by : (which : Which) → StaysIn old (step (held old new which) s turn.marking)
    by Old = step_in old s turn.marking is
    by New = subst (λ (n : ℕ). IfSome (next_of (step new s turn.marking)) (λ next. next.node < n)) (sym same)
        (step_in new s turn.marking also)

-- the title of the longest mixed route is covered by the old plan, if there is one
longest_by : (old new : Network) (bound : ℕ) (spot : Option Spot) (turns : List Turn) → IsLongestOf old new bound spot turns
    → IfSome spot (Covered old)
longest_by old new bound None turns h = tt
longest_by old new bound (Some spot) turns h = h.0.old_covered

pub longest_covered : (old new : Network) (change : Change) (bound : ℕ) (spot : Option Spot) (turns : List Turn)
    → change ≡ Kept bound spot turns → IsLawfulChange old new change → IfSome spot (Covered old)
longest_covered old new change bound spot turns is lawful =
    let h : IsLawfulChange old new (Kept bound spot turns) = subst (IsLawfulChange old new) is lawful in
    longest_by old new bound spot turns h.2

-- the bad route of an answer that is true has a turn for each hop
pub broken_short : (old new : Network) (change : Change) (i j : ℕ) (spot : Spot) (turns : List Turn) (hops : List MixedHop) (kind : Kind)
    → change ≡ Broken i j spot turns hops kind → IsLawfulChange old new change → length hops ≤ length turns
broken_short old new change i j spot turns hops kind is lawful =
    let h : IsLawfulChange old new (Broken i j spot turns hops kind) = subst (IsLawfulChange old new) is lawful in
    bad_short old new [] i j spot turns hops kind h.0
