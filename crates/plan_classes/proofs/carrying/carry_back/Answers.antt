use Rattle.std.proofs.Common.{◌≡◌, ◌≤◌, ◌++◌, ◌∙◌, List, ℕ, length, take, drop, Some, sym, ap, subst, arith}
use Rattle.plan_rules.specs.declared.target.Target.{Target}
use Rattle.plan_model.specs.declared.hop.Step.TheVariants.{Sent}
use Rattle.plan_classes.specs.Titles.{IsMember, spot_of}
use Rattle.plan_classes.specs.Leading.{brought}
use Rattle.plan_classes.proofs.Taking.{Carries, carries_there}
use Rattle.plan_classes.proofs.carrying.carry_back.Goals as goal

pub carried_back-requires-clause-strip : goal.carried_back-requires-clause-strip
carried_back-requires-clause-strip c =
    let k : Carries c.args.plan.now c.args.class.now c.args.target c.in-Some-Relay.strip c.in-Some-Relay.put c.args.digits.now =
    carries_there _ _ _ _ _ _ _ _ _ c.class_target.ensures.sound c.class_target.ensures.class c.requires.decided c.requires.node
    (sym c.in-Some-Relay.ensures.value ∙ ap (λ (t : Target). Some t) c.in-Some-Relay.field-0-is) c.requires.next in
    omega (arith, k.within, ap length c.known.ensures.value)

pub carried_back-requires-clause-few : goal.carried_back-requires-clause-few
carried_back-requires-clause-few c =
    let k : Carries c.args.plan.now c.args.class.now c.args.target c.in-Some-Relay.strip c.in-Some-Relay.put c.args.digits.now =
    carries_there _ _ _ _ _ _ _ _ _ c.class_target.ensures.sound c.class_target.ensures.class c.requires.decided c.requires.node
    (sym c.in-Some-Relay.ensures.value ∙ ap (λ (t : Target). Some t) c.in-Some-Relay.field-0-is) c.requires.next in
    subst (λ (ks : List ℕ). length (take c.in-Some-Relay.strip ks ++ drop (length c.in-Some-Relay.put) c.args.digits.now) ≤ 32)
    (sym c.known.ensures.value) k.few

pub returns-clause-member : goal.returns-clause-member
returns-clause-member c =
    let k : Carries c.args.plan.now c.args.class.now c.args.target c.in-Some-Relay.strip c.in-Some-Relay.put c.args.digits.now =
    carries_there _ _ _ _ _ _ _ _ _ c.class_target.ensures.sound c.class_target.ensures.class c.requires.decided c.requires.node
    (sym c.in-Some-Relay.ensures.value ∙ ap (λ (t : Target). Some t) c.in-Some-Relay.field-0-is) c.requires.next in
    subst (IsMember c.args.class.now) (sym (c.carried_back.ensures
    ∙ ap (λ (ks : List ℕ). take c.in-Some-Relay.strip ks
    ++ drop (length c.in-Some-Relay.put) c.args.digits.now) c.known.ensures.value)) k.member

pub returns-clause-leads : goal.returns-clause-leads
returns-clause-leads c = λ next h.
    let k : Carries c.args.plan.now c.args.class.now c.args.target c.in-Some-Relay.strip c.in-Some-Relay.put c.args.digits.now =
    carries_there _ _ _ _ _ _ _ _ _ c.class_target.ensures.sound c.class_target.ensures.class c.requires.decided c.requires.node
    (sym c.in-Some-Relay.ensures.value ∙ ap (λ (t : Target). Some t) c.in-Some-Relay.field-0-is) c.requires.next in
    subst (λ (ds : List ℕ). brought c.args.plan.now c.args.class.now c.args.target ds
    ≡ Some (Sent (spot_of next c.args.digits.now) c.args.target))
    (sym (c.carried_back.ensures ∙ ap (λ (ks : List ℕ). take c.in-Some-Relay.strip ks
    ++ drop (length c.in-Some-Relay.put) c.args.digits.now) c.known.ensures.value)) (k.leads next h)

pub returns-clause-only : goal.returns-clause-only
returns-clause-only c = λ next other o e.
    let k : Carries c.args.plan.now c.args.class.now c.args.target c.in-Some-Relay.strip c.in-Some-Relay.put c.args.digits.now =
    carries_there _ _ _ _ _ _ _ _ _ c.class_target.ensures.sound c.class_target.ensures.class c.requires.decided c.requires.node
    (sym c.in-Some-Relay.ensures.value ∙ ap (λ (t : Target). Some t) c.in-Some-Relay.field-0-is) c.requires.next in
    k.only next other o e ∙ sym (c.carried_back.ensures ∙ ap (λ (ks : List ℕ). take c.in-Some-Relay.strip ks
    ++ drop (length c.in-Some-Relay.put) c.args.digits.now) c.known.ensures.value)
