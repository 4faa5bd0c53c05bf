-- The command that gives an order in which relays can be given the second of two plans.
use Rattle.std.specs.Prelude.{◌≡◌, ℕ, List, Option}
use Rattle.plan_model.specs.Network.{Network}
use Rattle.plan_model.specs.SameNodes.{SameNodes}
use Rattle.plan_order.specs.Orders.{IsOrder, IsLawfulOrder}
use Rattle.plan_order.specs.declared.answer.Order.{Order}
use Rattle.plan_order.specs.declared.answer.Order.TheVariants.{Steps, NoOrder, Undecided}
use Rattle.order_report.specs.Orders.{order_text}
use Rattle.sccp_io.specs.Files.{Contents}
use Rattle.sccp_work.specs.PlanFile.{PlanFile}
use Rattle.sccp_work.specs.Questions.{order_of as order_asked}
use Rattle.sccp_work.specs.Work.{Work}
use Rattle.sccp_work.specs.declared.status.Status.{Status}
use Rattle.sccp_work.specs.declared.status.Status.TheVariants.{Done, Refused, TooWide, OtherNodes}
use Rattle.sccp_plans.specs.Texts.{other_nodes}
use Rattle.sccp_plans.specs.TwoPlans.{with_both, asked_of_both, IsGiven, BothTell, BothCause, BothSure}

abbrev pub order_status : Order → Status
order_status (Steps steps) = Done
order_status (NoOrder steps stuck) = Refused
order_status Undecided = TooWide

-- the steps from one plan to the other
abbrev pub ordered_work : Network → Network → Work
ordered_work old new = asked_of_both (order_asked old new) order_status (order_text old) old new

abbrev pub order_work : PlanFile → PlanFile → Work
order_work old new = with_both old new ordered_work

-- the answer on two plans and its text, as the work has them
abbrev pub IsOrderGiven : Network → Network → Status → List ℕ → Type 0
IsOrderGiven old new status text = IsGiven (order_asked old new) order_status (order_text old) old new status text

-- ---- what the text says

-- of two accepted plans: they have other nodes, or the text is of a lawful answer on an order
pub data TellsOrder (old new : Network) (given : Status) (text : List ℕ) : Type 0 where
  has_others : (SameNodes old new → ⊥) → given ≡ OtherNodes → text ≡ other_nodes → TellsOrder old new given text
  has_order : SameNodes old new → (order : Order) → IsLawfulOrder old new order → given ≡ order_status order
      → text ≡ order_text old order → TellsOrder old new given text

abbrev pub OrderTells : Option Contents → PlanFile → PlanFile → Status → Option (List ℕ) → Option (List ℕ) → Type 0
OrderTells = BothTell TellsOrder

-- ---- the causes

-- Three facts on two plans, a definition each. Some sets of relays are an order; or no sets are; or the search was given up, which
-- is given only for many dead ends, or for plans that reach too many classes together.
abbrev pub HasOrder : Network → Network → Type 0
HasOrder old new = (steps : List (List ℕ)) × IsOrder old new steps

abbrev pub HasNoOrder : Network → Network → Type 0
HasNoOrder old new = (steps : List (List ℕ)) → IsOrder old new steps → ⊥

abbrev pub IsUndecided : Network → Network → Type 0
IsUndecided old new = IsLawfulOrder old new Undecided

-- the cause of each answer
abbrev pub OrderCause : Option Contents → PlanFile → PlanFile → Status → Type 0
OrderCause = BothCause HasOrder HasNoOrder IsUndecided

-- what gives an answer for sure: an order that is there may be left undecided as well
abbrev pub OrderSure : Option Contents → PlanFile → PlanFile → Status → Type 0
OrderSure = BothSure HasOrder IsUndecided
