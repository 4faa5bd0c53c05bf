use Rattle.std.proofs.Common.{◌∙◌, ℕ, List, ap, subst, sym}
use Rattle.plan_model.proofs.SafeWays.{covered_by}
use Rattle.plan_mixed.specs.Pairs.{old_of, new_of}
use Rattle.plan_change.specs.declared.mixed_hop.MixedHop.{MixedHop}
use Rattle.plan_change.specs.declared.turn.Turn.{Turn}
use Rattle.plan_change.specs.Mixture.{mixed_under, tagged_under, BadUnder, HaveMarkings}
use Rattle.plan_change.proofs.Ranges.{in_range_under}
use Rattle.plan_change.proofs.witness.shown.Goals as goal

pub returns : goal.returns
returns c =
    let may = c.args.plans.now.may.now in
    let old = c.args.plans.now.old.now in
    let new = c.args.plans.now.new.now in
    let spot = c.args.spot.now in (
      subst (λ (i : ℕ). BadUnder may old new i c.new_of.result spot c.args.turns c.in_ok-hops.hops c.args.kind) (sym c.old_of.ensures)
          (subst (λ (j : ℕ). BadUnder may old new (old_of c.args.number) j spot c.args.turns c.in_ok-hops.hops c.args.kind)
          (sym c.new_of.ensures)
          (subst (λ (hops : List MixedHop). BadUnder may old new (old_of c.args.number) (new_of c.args.number)
          spot c.args.turns hops c.args.kind)
          (sym (c.in_ok-hops.ensures
          ∙ ap (λ (ts : List Turn). tagged_under may (mixed_under may old new spot ts) ts) c.as_slice-2.ensures))
          c.requires.bad)),
      in_range_under may old new spot c.args.turns c.requires.sound_old c.requires.sound_new c.requires.same
          (covered_by old (old_of c.args.number) spot c.requires.bad.old_covered)
          (subst HaveMarkings c.as_slice.ensures c.vouch.ensures),
    )
