use Rattle.std.proofs.Common.{ℕ, false, sym, subst, refl, ◌∙◌}
use Rattle.std.proofs.lemmas.Bool.{false≢true}
use Rattle.plan_model.specs.declared.hop.Step.TheVariants.{Ended}
use Rattle.plan_check.specs.Ranked.{Allows}
use Rattle.plan_margin.specs.declared.found.Found.TheVariants.{Stopped}
use Rattle.plan_margin.specs.Searching.{IsFound, IsIn}
use Rattle.plan_margin.proofs.Arriving.{arrive_here}
use Rattle.plan_margin.proofs.Following.{ok_is, target_stop}
use Rattle.plan_margin.proofs.search.end_at.Goals as goal

pub returns-then-allows-clause-found : goal.returns-then-allows-clause-found
returns-then-allows-clause-found c =
    let choice = c.args.choice.now in
    arrive_here c.args.plan.now choice.class.now choice.place choice.left c.args.set.now.most (IsIn c.args.plan.now c.args.set.now)
    (Ended c.args.pc c.args.ssn choice.place) false c.requires.some c.requires.class c.requires.decided c.requires.takes c.requires.exact
    refl
    (subst (λ (n : ℕ). Allows c.args.plan.now n c.args.pc c.args.ssn) c.cover.ensures.value (c.allows.ensures.0 c.if-allows.true))

pub returns-else-allows-clause-found : goal.returns-else-allows-clause-found
returns-else-allows-clause-found c =
    let choice = c.args.choice.now in
    ok_is c.stopped.result (Stopped c.sample.result c.args.set.now.lost)
    (λ f. IsFound c.args.plan.now choice.class.now choice.left c.args.set.now f) c.stopped.ensures
    (target_stop c.args.plan.now choice.class.now choice.place choice.left c.args.set.now c.sample.result
    (Ended c.args.pc c.args.ssn choice.place) c.requires.some c.requires.class c.requires.decided c.requires.takes c.requires.set
    c.sample.ensures.member (c.requires.exact c.sample.result c.sample.ensures.member) refl
    (λ a. false≢true (sym c.if-allows.false ∙ c.allows.ensures.1
    (subst (λ (n : ℕ). Allows c.args.plan.now n c.args.pc c.args.ssn) (sym c.cover.ensures.value) a))))
