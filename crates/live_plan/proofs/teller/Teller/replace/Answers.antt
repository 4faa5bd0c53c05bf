use Rattle.std.proofs.Common.{rules, ◌≡◌, ◌++◌, ◌∷◌, [], ap, sym, ◌∙◌, subst}
use Rattle.plan_check.specs.Verified.{Verified}
use Rattle.live_plan.specs.Plans.{HaveNodes}
use Rattle.live_plan.specs.Tellers.{plans_of, due_of}
use Rattle.live_plan.proofs.Passed.{have_one, has_due}
use Rattle.live_plan.proofs.teller.Teller.replace.Goals as goal

pub begin-requires-clause-nodes : goal.begin-requires-clause-nodes
begin-requires-clause-nodes g c =
    let one : c.push.new.self ≡ c.args.next ∷ [] = search rules in
    subst (HaveNodes c.args.self.now.nodes) (sym one) (have_one c.args.self.now.nodes c.args.next c.requires.nodes)

pub advance-requires : goal.advance-requires
advance-requires g c =
    let one : c.push.new.self ≡ c.args.next ∷ [] = search rules in
    let same : c.in-Some.next ≡ c.args.next = search rules in
    let plans : plans_of c.begin.new.self ≡ plans_of c.args.self.now = c.begin.ensures.plans in
    has_due (due_of c.begin.new.self) (plans_of c.begin.new.self) c.push.new.self [] c.in-Some.next (c.in_ok-begin.ensures.due
    ∙ ap (λ l. l ++ c.push.new.self) (sym plans)) (one ∙ ap (λ (p : Verified). p ∷ []) (sym same))

pub returns-clause-ok : goal.returns-clause-ok
returns-clause-ok g c =
    let same : c.in-Some.next ≡ c.args.next = search rules in
    let plans : plans_of c.begin.new.self ≡ plans_of c.args.self.now = c.begin.ensures.plans in (
      c.in_ok-advance.ensures.ok ∙ (ap (λ l. l ++ c.in-Some.next ∷ []) plans
          ∙ ap (λ (p : Verified). plans_of c.args.self.now ++ p ∷ []) same),
      c.number.ensures,
    )
