use Rattle.std.proofs.Common.{◌∙◌, refl, sym}
use Rattle.std.specs.Prelude.{IsSome}
use Rattle.std.proofs.lemmas.Bool.{false≢true}
use Rattle.std.proofs.lemmas.List.Elements.{All-same}
use Rattle.plan_classes.specs.Titles.{parts_of}
use Rattle.plan_check.specs.Ranking.{rank_in}
use Rattle.plan_check.specs.Ranked.{RanksUpTo}
use Rattle.plan_check.proofs.Causes.{open_ends, open_ranks, open_ranked}
use Rattle.plan_check.proofs.classes.test_open.Goals as goal

pub returns-then-not-all_have_ranks-clause-fault : goal.returns-then-not-all_have_ranks-clause-fault
returns-then-not-all_have_ranks-clause-fault c = (
  refl,
  open_ends c.args.plan.now c.args.class.now c.requires.cover c.requires.node c.requires.undecided,
  λ ranks. false≢true (sym c.if-not-all_have_ranks.true ∙ c.all_have_ranks.ensures.1
      (All-same (λ part. IsSome (rank_in c.args.ranks.now part)) _ (parts_of c.args.class.now) (c.as_slice-parts.ensures
      ∙ c.in_ok-split.ensures.value) (ranks.parts c.requires.undecided))),
)

pub returns-clause-fault : goal.returns-clause-fault
returns-clause-fault c = (
  refl,
  open_ends c.args.plan.now c.args.class.now c.requires.cover c.requires.node c.requires.undecided,
  open_ranks c.args.plan.now (rank_in c.args.ranks.now) c.args.class.now c.requires.undecided
      (All-same (λ part. IsSome (rank_in c.args.ranks.now part)) (parts_of c.args.class.now) _
      (sym (c.as_slice-parts.ensures ∙ c.in_ok-split.ensures.value)) (c.all_have_ranks.ensures.0 c.if-not-all_have_ranks.false)),
  λ lower. false≢true (sym c.if-is_no_lower.false ∙ c.is_no_lower.ensures.1 (
    lower.low,
    lower.high,
    All-same (RanksUpTo (rank_in c.args.ranks.now) c.args.rank) _ (parts_of c.args.class.now)
        (c.as_slice-parts.ensures ∙ c.in_ok-split.ensures.value) (lower.parts c.requires.undecided),
  )),
)

pub returns-then-is_no_lower-clause-passed : goal.returns-then-is_no_lower-clause-passed
returns-then-is_no_lower-clause-passed c =
    let p = c.is_no_lower.ensures.0 c.if-is_no_lower.true in
    open_ranked c.args.plan.now
    (rank_in c.args.ranks.now) c.args.class.now c.args.rank c.in_ok-split.ensures.class c.requires.cover c.requires.node
    c.requires.undecided (
      p.0,
      p.1,
      All-same (RanksUpTo (rank_in c.args.ranks.now) c.args.rank) (parts_of c.args.class.now) _
          (sym (c.as_slice-parts.ensures ∙ c.in_ok-split.ensures.value)) p.2,
    )
