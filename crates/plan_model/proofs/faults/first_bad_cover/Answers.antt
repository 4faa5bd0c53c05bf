use Rattle.std.proofs.Common.{sym, ap}
use Rattle.std.specs.Option.{option_map}
use Rattle.plan_model.specs.declared.place.Place.TheVariants.{Cover as AtCover}
use Rattle.std.proofs.lemmas.List.Elements.{AllWithin-more, AllWithin-upto, All-from_all_within}
use Rattle.plan_rules.proofs.FirstOf.{first_of_here, first_of_next, first_of_end}
use Rattle.plan_rules.proofs.Places.{holds_at}
use Rattle.plan_model.specs.Faults.{cover_place_at, HasNumbers}
use Rattle.plan_model.proofs.faults.first_bad_cover.Goals as goal

pub returns-in-Some-clause-place : goal.returns-in-Some-clause-place
returns-in-Some-clause-place c =
    first_of_here cover_place_at _ c.loop-i.i c.index-covers-i.result _ _ c.loop-i-test.true (sym c.index-covers-i.is)
    (ap (option_map (AtCover c.loop-i.i)) (sym c.in-Some.ensures.value)) c.loop-i.invariant.ahead

pub loop-i-preserved : goal.loop-i-preserved
loop-i-preserved c = record {
  ahead = first_of_next cover_place_at _ c.loop-i.i c.index-covers-i.result _ c.loop-i-test.true (sym c.index-covers-i.is)
      (ap (option_map (AtCover c.loop-i.i)) (sym c.in_default.ensures.value)) c.loop-i.invariant.ahead;
  numbers = AllWithin-more HasNumbers _ 0 c.loop-i.i c.loop-i.invariant.numbers
      (holds_at HasNumbers _ c.loop-i.i c.index-covers-i.result c.loop-i-test.true c.index-covers-i.is c.cover_key.ensures.numbers);
}

pub returns-clause-place : goal.returns-clause-place
returns-clause-place c = first_of_end cover_place_at _ c.loop-i.i _ c.loop-i-test.false c.loop-i.invariant.ahead

pub returns-clause-numbers : goal.returns-clause-numbers
returns-clause-numbers c =
    All-from_all_within HasNumbers _ (AllWithin-upto HasNumbers _ 0 c.loop-i.i _ c.loop-i-test.false c.loop-i.invariant.numbers)
