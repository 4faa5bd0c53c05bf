use Rattle.std.proofs.Common.{ℕ, ◌⊎◌, Option, subst, sym}
use Rattle.std.specs.Prelude.{IsSomeAnd}
use Rattle.plan_model.specs.declared.hop.Step.{Step}
use Rattle.plan_mixed.specs.Pairs.{old_of, new_of}
use Rattle.plan_change.specs.Ways.{Forbids, IsBadStep}
use Rattle.plan_change.proofs.following.ended.Goals as goal

pub bad_way-requires-clause-bad : goal.bad_way-requires-clause-bad
bad_way-requires-clause-bad c =
    subst (λ (o : Option Step). IsSomeAnd o (IsBadStep c.args.plans.now.old.now c.args.plans.now.new.now c.args.class.now.cover))
    (sym (c.requires.exact c.sample.result c.sample.ensures.member))
    (subst (λ (n : ℕ). Forbids c.args.plans.now.old.now (old_of n) c.args.pc c.args.ssn
    ⊎ Forbids c.args.plans.now.new.now (new_of n) c.args.pc c.args.ssn) c.cover.ensures.value
    (c.both_allow.ensures.no c.if-both_allow.false))
