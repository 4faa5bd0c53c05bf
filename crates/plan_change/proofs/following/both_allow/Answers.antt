use Rattle.std.proofs.Common.{◌∙◌, ℕ, sym, subst, inl, inr}
use Rattle.std.proofs.lemmas.Bool.{false≢true}
use Rattle.plan_check.specs.Ranked.{Allows}
use Rattle.plan_mixed.specs.Pairs.{old_of, new_of}
use Rattle.plan_change.proofs.Onward.{forbids}
use Rattle.plan_change.proofs.following.both_allow.Goals as goal

pub returns-then-not-allows-clause-no : goal.returns-then-not-allows-clause-no
returns-then-not-allows-clause-no c = λ _.
    inl (forbids c.args.plans.now.old.now (old_of c.args.number) c.args.pc c.args.ssn c.requires.pair.0
    (λ h. false≢true (sym c.if-not-allows.true ∙ c.allows.ensures.1
    (subst (λ (n : ℕ). Allows c.args.plans.now.old.now n c.args.pc c.args.ssn) (sym c.old_of.ensures) h))))

pub returns-then-not-allows-2-clause-no : goal.returns-then-not-allows-2-clause-no
returns-then-not-allows-2-clause-no c = λ _.
    inr (forbids c.args.plans.now.new.now (new_of c.args.number) c.args.pc c.args.ssn c.requires.pair.1
    (λ h. false≢true (sym c.if-not-allows-2.true ∙ c.allows-2.ensures.1
    (subst (λ (n : ℕ). Allows c.args.plans.now.new.now n c.args.pc c.args.ssn) (sym c.new_of.ensures) h))))
