-- the arms of a step, put together
use Rattle.std.specs.Prelude.{◌≡◌, ℕ, Bool, false, ◌==◌, List, Option, Some, None, Result, IfOk, option_map, refl, if◌then◌else◌}
use Rattle.std.proofs.Common.{sym, ◌∙◌, ap, subst}
use Rattle.sccp_base.specs.declared.mark.Mark.{Mark}
use Rattle.sccp_address.specs.declared.address.Address.{Address}
use Rattle.sccp_message.specs.declared.message.Message.{Message}
use Rattle.plan_model.specs.declared.spot.Spot.{Spot}
use Rattle.plan_model.specs.declared.hop.Step.{Step}
use Rattle.plan_model.specs.declared.hop.Step.TheVariants as steps
use Rattle.plan_model.specs.Network.{Network}
use Rattle.sccp_scrc.specs.declared.arrival.Arrival.{Arrival}
use Rattle.sccp_scrc.specs.declared.arrival.Arrival.TheVariants.{Relayed, Ended, Local}
use Rattle.sccp_scrc.specs.Unitdata.{redirected, octets_of}
use Rattle.sccp_scrc.specs.Rewriting.{one_less, to_relay, to_place}
use Rattle.sccp_scrc.specs.Arriving.{point_of, leaving, after_step, at_subsystem, at_title, by_called}
use Rattle.sccp_scrc.proofs.Arrivals.{if_false}
use Rattle.sccp_scrc.specs.Next.{onward_address}

same_some : (x y : Address) → Some x ≡ Some y → x ≡ y
same_some x y e = cc

pub after_sent : {E : Type 0} (r : Result Arrival E) (plan : Network) (node : ℕ) (marking : List Mark) (origin : ℕ) (m : Message)
    (address to : Address) (o : Option Address) (x : Step) (next : Spot) (target pc : ℕ) →
    x ≡ steps.Sent next target → o ≡ Some to → o ≡ onward_address x address → pc ≡ point_of plan next.node
    → IfOk r (λ a. a ≡ leaving marking origin m (Relayed pc) (octets_of (redirected to one_less m)))
    → IfOk r (λ a. a ≡ after_step plan node marking origin m address x)
after_sent r plan node marking origin m address to o x next target pc is at on point h =
    let same : to ≡ to_relay address next = same_some to (to_relay address next) (sym at ∙ (on ∙ ap (λ s. onward_address s address) is)) in
    let whole : leaving marking origin m (Relayed pc) (octets_of (redirected to one_less m))
    ≡ after_step plan node marking origin m address x =
    (λ i. leaving marking origin m (Relayed (point i)) (octets_of (redirected (same i) one_less m)))
    ∙ ap (after_step plan node marking origin m address) (sym is) in
    subst (λ (y : Arrival). IfOk r (λ a. a ≡ y)) whole h

pub after_ended : {E : Type 0} (r : Result Arrival E) (plan : Network) (node : ℕ) (marking : List Mark) (origin : ℕ) (m : Message)
    (address to : Address) (o : Option Address) (x : Step) (pc ssn target own : ℕ) →
    x ≡ steps.Ended pc ssn target → o ≡ Some to → o ≡ onward_address x address → own ≡ point_of plan node →
    IfOk r (λ a. a ≡ (if pc == own then Local ssn (redirected to one_less m) else leaving marking origin m (Ended pc ssn)
    (octets_of (redirected to one_less m)))) → IfOk r (λ a. a ≡ after_step plan node marking origin m address x)
after_ended r plan node marking origin m address to o x pc ssn target own is at on point h =
    let same : to ≡ to_place address ssn = same_some to (to_place address ssn) (sym at ∙ (on ∙ ap (λ s. onward_address s address) is)) in
    let whole : (if pc == own then Local ssn (redirected to one_less m) else leaving marking origin m (Ended pc ssn)
    (octets_of (redirected to one_less m))) ≡ after_step plan node marking origin m address x =
    (λ i. if pc == point i then Local ssn (redirected (same i) one_less m) else leaving marking origin m (Ended pc ssn)
    (octets_of (redirected (same i) one_less m))) ∙ ap (after_step plan node marking origin m address) (sym is) in
    subst (λ (y : Arrival). IfOk r (λ a. a ≡ y)) whole h

pairs : (x y : Bool × Option ℕ) → Some x ≡ Some y → x ≡ y
pairs x y e = cc

-- a message that is not routed on SSN
pub titled : {E : Type 0} (r : Result Arrival E) (plan : Network) (node : ℕ) (marking : List Mark) (origin : ℕ) (m : Message)
    (o : Option Address) (b : Bool) (ssn : Option ℕ) →
    option_map {U = Bool × Option ℕ} (λ (a : Address). (a.by_ssn, a.ssn)) o ≡ Some (b, ssn) → b ≡ false
    → ((address : Address) → o ≡ Some address → IfOk r (λ a. a ≡ at_title plan node marking origin m address))
    → IfOk r (λ a. a ≡ by_called plan node marking origin m o)
titled r plan node marking origin m None b ssn e f h = absurd (cc)
titled r plan node marking origin m (Some x) b ssn e f h =
    let pair = pairs (x.by_ssn, x.ssn) (b, ssn) e in
    let by_title : x.by_ssn ≡ false = ap (λ (p : Bool × Option ℕ). p.0) pair ∙ f in
    subst (λ (y : Arrival). IfOk r (λ a. a ≡ y)) (sym (if_false x.by_ssn (at_subsystem plan node marking origin m x.ssn)
    (at_title plan node marking origin m x) by_title)) (h x refl)
