-- What the search for an order ends with.
use Rattle.std.proofs.Common.{◌≡◌, ◌⊎◌, ℕ, List, Option, Some, Result, IfOk, inl, inr}
use Rattle.plan_model.specs.Network.{Network}
use Rattle.plan_model.specs.SameNodes.{SameNodes}
use Rattle.plan_order.specs.Orders.{IsLawfulOrder}
use Rattle.plan_order.specs.Steps.{sets_of}
use Rattle.plan_order.specs.declared.answer.Order.{Order}
use Rattle.plan_order.specs.declared.answer.Order.TheVariants.{Steps, NoOrder, Undecided}
use Rattle.sccp_io.specs.Files.{Contents}
use Rattle.order_report.specs.Orders.{order_text}
use Rattle.sccp_plans.specs.Order.{order_status, ordered_work, IsOrderGiven, HasOrder, HasNoOrder, IsUndecided, order_work}
use Rattle.sccp_plans.specs.Order.{OrderCause, OrderSure, OrderTells, TellsOrder, has_others, has_order}
use Rattle.sccp_plans.specs.Texts.{other_nodes}
use Rattle.sccp_work.specs.Ending.{IsCut, Works}
use Rattle.sccp_work.specs.Moment.{Moment}
use Rattle.sccp_work.specs.PlanFile.{PlanFile}
use Rattle.sccp_work.specs.Questions.{order_of, IsOrdered}
use Rattle.sccp_work.specs.Work.{Ends}
use Rattle.sccp_work.specs.Writing.{Writes}
use Rattle.sccp_work.specs.declared.status.Status.{Status}
use Rattle.sccp_work.specs.declared.status.Status.TheVariants.{OtherNodes}
use Rattle.sccp_work.specs.declared.stop.Stop.{Stop}
use Rattle.sccp_plans.proofs.WorkCauses.{WorkCauses}
use Rattle.sccp_plans.proofs.TwoPlansLemmas.{Works-given, Ends-given, given_files, BothEnd, differ, goes, fails, unsure}
use Rattle.sccp_plans.proofs.TwoPlansLemmas.{both_only, both_usage, both_always, both_refused, both_tell, both_files}
use Rattle.sccp_work.specs.Limit.{IsThere}

-- ---- the answer on two plans

not_cut : (order : Order) → IsCut (order_status order) → ⊥
not_cut (Steps steps) cut = cut
not_cut (NoOrder steps stuck) cut = cut
not_cut Undecided cut = cut

-- the answer on two plans is printed
pub Works-ordered : (old new : Network) (status : Status) (line text : List ℕ) (result : Result Status Stop) (b a : Moment)
    → IsOrderGiven old new status text → line ≡ text
    → Writes line result b.taken a.taken b.write_faults a.write_faults → IfOk result (λ s. s ≡ status) → a.contents ≡ b.contents
    → a.sound ≡ b.sound → a.read_faults ≡ b.read_faults → Works (ordered_work old new) result b a
Works-ordered old new status line text result b a answered spelt writes is contents sound read_faults =
    Works-given (order_of old new) order_status (order_text old) old new status line text result b a not_cut (λ order k. k.2)
    answered spelt writes is contents sound read_faults

-- ---- how the command ends

Ends-ordered : (contents : Option Contents) (old new : Network) (s : Status) (text : List ℕ) → Ends contents (ordered_work old new) s text
    → TellsOrder old new s text
Ends-ordered contents old new s text h = by (Ends-given (order_of old new) order_status (order_text old) contents old new s text h)
  where
    by : ((SameNodes old new → ⊥) × (s ≡ OtherNodes) × (text ≡ other_nodes))
        ⊎ ((order : Order) × IsOrdered old new order × (s ≡ order_status order) × (text ≡ order_text old order))
        → TellsOrder old new s text
    by (inl k) = has_others k.0 k.1 k.2
    by (inr k) = has_order k.1.2 k.0 k.1.3 k.2 k.3

abbrev OrderEnds : Network → Network → Status → Type 0
OrderEnds = BothEnd HasOrder HasNoOrder IsUndecided

order_answer : (old new : Network) (s : Status) (text : List ℕ) → TellsOrder old new s text → OrderEnds old new s
order_answer old new s text (has_others others is spelt) = differ others is
order_answer old new s text (has_order same order lawful is spelt) = by order lawful is
  where
    by : (c : Order) → IsLawfulOrder old new c → s ≡ order_status c → OrderEnds old new s
    by (Steps steps) k e = goes same (sets_of steps, k.order) e
    by (NoOrder steps stuck) k e = fails same k.none e
    by Undecided k e = unsure same k e

not_both : (p q : Network) → HasOrder p q → HasNoOrder p q → ⊥
not_both p q has none = none has.0 has.1

pub order_causes : (old new : PlanFile) → WorkCauses (order_work old new)
    (λ c. OrderCause (Some c) old new) (λ c. OrderSure (Some c) old new)
    (λ c. OrderTells (Some c) old new) (λ c. IsThere c old.name × IsThere c new.name)
order_causes old new = record {
  only = λ c s text h. both_only ordered_work TellsOrder Ends-ordered HasOrder HasNoOrder IsUndecided order_answer
      (Some c) old new s text h;
  usage = λ contents text h. absurd (both_usage ordered_work TellsOrder Ends-ordered HasOrder HasNoOrder IsUndecided order_answer
      contents old new text h);
  always = λ c t s text cause h. both_always ordered_work TellsOrder Ends-ordered HasOrder HasNoOrder IsUndecided order_answer
      not_both c old new t s text cause h;
  refused = λ c s text cause h. both_refused ordered_work TellsOrder Ends-ordered HasOrder HasNoOrder IsUndecided order_answer
      not_both c old new s text cause h;
  tells = λ c s text taken taken' is ends. both_tell ordered_work TellsOrder Ends-ordered HasOrder HasNoOrder IsUndecided
      order_answer c old new s text taken taken' is ends;
  files = λ c has. both_files c old new ordered_work
      (λ p q. given_files (order_of p q) order_status (order_text p) c p q) has.0 has.1;
}
