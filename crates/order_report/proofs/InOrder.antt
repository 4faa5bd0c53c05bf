-- The mixed routes that an answer on an order shows are bad ones, with a turn for each hop.
use Rattle.std.specs.Prelude.{◌≡◌, List, [], ◌∷◌, length, slice_index_or}
use Rattle.std.specs.List.{All, concat}
use Rattle.std.proofs.Common.{subst}
use Rattle.plan_model.specs.Network.{Network}
use Rattle.plan_mixed.specs.declared.holding.Holding.{Holding}
use Rattle.plan_change.specs.declared.answer.Change.{Change}
use Rattle.plan_change.specs.declared.answer.Change.TheVariants.{Kept, Broken, TooWide}
use Rattle.plan_change.proofs.Holdings.{bad_short}
use Rattle.plan_order.specs.Orders.{IsLawfulOrder, IsLawfulRefusal, IsRefusal}
use Rattle.plan_order.specs.Steps.{during, sets_of}
use Rattle.plan_order.specs.declared.answer.Order.{Order}
use Rattle.plan_order.specs.declared.answer.Order.TheVariants.{NoOrder}
use Rattle.plan_order.specs.declared.safe_step.SafeStep.{SafeStep}
use Rattle.plan_order.specs.declared.stuck.Stuck.{Stuck}
use Rattle.order_report.specs.Orders.{HasTurns}

refusal_turns : (may : List Holding) (old new : Network) (why : Change) → IsRefusal may old new why → HasTurns why
refusal_turns may old new (Broken i j spot turns hops kind) bad = bad_short old new may i j spot turns hops kind bad.0
refusal_turns may old new (Kept bound spot turns) bad = bad
refusal_turns may old new TooWide bad = bad

-- each relay that is shown as stuck has its bad mixed route
pub stuck_turns : (old new : Network) (order : Order) (steps : List SafeStep) (stuck : List Stuck) → order ≡ NoOrder steps stuck
    → IsLawfulOrder old new order → All (λ s. HasTurns s.why) stuck
stuck_turns old new order steps stuck is lawful =
    let h : IsLawfulRefusal old new steps stuck = subst (IsLawfulOrder old new) is lawful in
    λ k d few. refusal_turns (during (length old.nodes) (concat (sets_of steps)) ((slice_index_or stuck k d).node ∷ [])) old new
    (slice_index_or stuck k d).why (h.each k d few).why
