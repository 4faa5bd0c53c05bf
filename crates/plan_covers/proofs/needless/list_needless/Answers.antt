use Rattle.std.proofs.Common.{◌+◌, subst, sym, refl, ◌∙◌}
use Rattle.plan_covers.proofs.Listing.{AreSoFar, so_far_none, so_far_more, so_far_same, so_far_all}
use Rattle.plan_covers.proofs.needless.list_needless.Goals as goal
use Rattle.plan_covers.proofs.needless.list_needless.Goals.{in-Some+in_ok-push, in_default}

pub loop-place-init : goal.loop-place-init
loop-place-init c = subst (AreSoFar c.args.covers.now 0) (sym c.new-found.ensures) (so_far_none c.args.covers.now)

pub loop-place-preserved : goal.loop-place-preserved
loop-place-preserved c = elim c.match-first_within.branch [
  | in-Some+in_ok-push w ↦ so_far_more c.args.covers.now c.loop-place.place c.loop-place.found c.match-first_within.found _
      (w.found-is ∙ w.in_ok-push.ensures.ok) refl w.in-Some.ensures.found c.loop-place.invariant
  | in_default w ↦ subst (AreSoFar c.args.covers.now (c.loop-place.place + 1)) (sym w.found-is)
      (so_far_same c.args.covers.now c.loop-place.place c.loop-place.found (w.in_default.ensures.none refl) c.loop-place.invariant)
]

pub returns : goal.returns
returns c = so_far_all c.args.covers.now c.loop-place.place c.loop-place.found c.loop-place-test.false c.loop-place.invariant
