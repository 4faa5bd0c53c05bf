use Rattle.std.proofs.Common.{◌≡◌, ◌+◌, length, sym, subst, refl, arith}
use Rattle.std.proofs.lemmas.Option.{slice_get_read}
use Rattle.plan_covers.specs.declared.cover_key.CoverKey.{CoverKey}
use Rattle.plan_covers.specs.Keys.{key_of}
use Rattle.plan_covers.specs.Firsts.{IsFirstOf}
use Rattle.plan_covers.proofs.Fronts.{IsFirstShorter, first_none, first_more, first_found, none_found}
use Rattle.plan_covers.proofs.needless.first_within.Goals as goal

pub loop-count-init : goal.loop-count-init
loop-count-init c = first_none c.args.covers.now c.args.place

pub loop-count-preserved : goal.loop-count-preserved
loop-count-preserved c =
    let covers = c.args.covers.now in
    let cover = c.index-covers-place.result in
    let at = slice_get_read covers (length covers) c.args.place cover refl c.requires.place c.index-covers-place.is in
    subst (IsFirstShorter covers c.args.place (c.loop-count.count + 1)) (sym c.earlier-first.ensures)
    (first_more covers c.args.place c.loop-count.count cover c.loop-count.first c.first_with_key.result at c.loop-count.invariant
    (subst (λ (k : CoverKey). IsFirstOf (λ other. key_of other ≡ k) covers c.args.place c.first_with_key.result) c.of_front-key.ensures
    c.first_with_key.ensures))

pub returns-clause-found : goal.returns-clause-found
returns-clause-found c =
    let covers = c.args.covers.now in
    let cover = c.index-covers-place.result in
    let at = slice_get_read covers (length covers) c.args.place cover refl c.requires.place c.index-covers-place.is in
    first_found covers c.args.place c.loop-count.count cover c.loop-count.first at
    (omega (arith, c.loop-count-test.false, c.len-count-end.ensures.value)) c.loop-count.invariant

pub returns-clause-none : goal.returns-clause-none
returns-clause-none c =
    let covers = c.args.covers.now in
    let cover = c.index-covers-place.result in
    let at = slice_get_read covers (length covers) c.args.place cover refl c.requires.place c.index-covers-place.is in
    none_found covers c.args.place c.loop-count.count cover c.loop-count.first at
    (omega (arith, c.loop-count-test.false, c.len-count-end.ensures.value)) c.loop-count.invariant
