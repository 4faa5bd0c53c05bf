-- What a work asks of plans, and which replies are true.
use Rattle.std.specs.Prelude.{ℕ, List}
use Rattle.plan_change.specs.Changes.{IsLawfulChange}
use Rattle.plan_change.specs.declared.answer.Change.{Change}
use Rattle.plan_margin.specs.Margins.{IsMargin}
use Rattle.plan_margin.specs.declared.loss_kinds.LossKinds.{LossKinds}
use Rattle.plan_margin.specs.declared.margin.Margin.{Margin}
use Rattle.plan_model.specs.Network.{Network, IsPlan}
use Rattle.plan_model.specs.SameNodes.{SameNodes}
use Rattle.plan_order.specs.Orders.{IsLawfulOrder}
use Rattle.plan_order.specs.declared.answer.Order.{Order}
use Rattle.plan_unused.specs.Surveys.{IsLawfulSurvey}
use Rattle.plan_unused.specs.declared.survey.Survey.{Survey}
use Rattle.plan_verify.specs.Lawful.{IsLawful, AcceptsBelowLimit}
use Rattle.plan_verify.specs.declared.verdict.Verdict.{Verdict}
use Rattle.relay_watch.specs.declared.event.Event.{Event}
use Rattle.sccp_work.specs.Judgement.{Judgement, IsHeard}

pub data Question : Type 0 where
  -- is the plan safe?
  verdict_on : Network → Question
  -- may relays hold either of two plans?
  mixture_of : Network → Network → Question
  -- what can no covered title use?
  survey_of : Network → Question
  -- how many points can be lost before a title of the cover of this number is stopped, if up to so many are asked for?
  margin_of : Network → LossKinds → ℕ → ℕ → Question
  -- in which order can relays be given the second of two plans?
  order_of : Network → Network → Question
  -- which of these messages does the plan have its relays send?
  judgement_of : Network → List Event → Question

abbrev pub Reply : Question → Type 0
Reply (verdict_on plan) = Verdict
Reply (mixture_of old new) = Change
Reply (survey_of plan) = Survey
Reply (margin_of plan kinds number losses) = Margin
Reply (order_of old new) = Order
Reply (judgement_of plan events) = Judgement

-- a plan, and a verdict that is true of it and accepts it only below its limit of classes
abbrev pub IsJudged : Network → Verdict → Type 0
IsJudged plan verdict = IsPlan plan × IsLawful plan verdict × AcceptsBelowLimit plan verdict

-- two plans of the same nodes, and an answer that is true of their mixture
abbrev pub IsCompared : Network → Network → Change → Type 0
IsCompared old new change = IsPlan old × IsPlan new × SameNodes old new × IsLawfulChange old new change

-- a plan, and a survey that lists exactly what is unused
abbrev pub IsSurveyed : Network → Survey → Type 0
IsSurveyed plan survey = IsPlan plan × IsLawfulSurvey plan survey

-- a plan, and a margin of one of its covers
abbrev pub IsMeasured : Network → LossKinds → ℕ → ℕ → Margin → Type 0
IsMeasured plan kinds number losses margin = IsPlan plan × IsMargin plan kinds number losses margin

-- two plans of the same nodes, and an answer on an order that is true of them
abbrev pub IsOrdered : Network → Network → Order → Type 0
IsOrdered old new order = IsPlan old × IsPlan new × SameNodes old new × IsLawfulOrder old new order

-- the reply is true
abbrev pub IsTrueOf : (question : Question) → Reply question → Type 0
IsTrueOf (verdict_on plan) verdict = IsJudged plan verdict
IsTrueOf (mixture_of old new) change = IsCompared old new change
IsTrueOf (survey_of plan) survey = IsSurveyed plan survey
IsTrueOf (margin_of plan kinds number losses) margin = IsMeasured plan kinds number losses margin
IsTrueOf (order_of old new) order = IsOrdered old new order
IsTrueOf (judgement_of plan events) judgement = IsHeard plan events judgement
