use Rattle.std.proofs.Common.{◌+◌, ◌++◌, [], ◌∷◌, length, sym, subst, refl, rules}
use Rattle.std.proofs.lemmas.Option.{slice_get_read}
use Rattle.plan_covers.specs.declared.cover_key.CoverKey.{CoverKey}
use Rattle.plan_covers.specs.Keys.{HasKeys}
use Rattle.plan_covers.proofs.Groups.{has_none, has_more}
use Rattle.plan_covers.proofs.cover_order.keys_of.Goals as goal

pub loop-place-init : goal.loop-place-init
loop-place-init c = has_none c.args.covers.now _ (search rules)

pub loop-place-preserved : goal.loop-place-preserved
loop-place-preserved c =
    let covers = c.args.covers.now in
    let place = c.loop-place.place in
    let keys = c.loop-place.keys.items in
    let cover = c.index-covers-place.result in
    let at = slice_get_read covers (length covers) place cover refl c.loop-place-test.true c.index-covers-place.is in
    subst (HasKeys covers (place + 1)) (sym c.in_ok-push.ensures.items)
    (subst (λ (k : CoverKey). HasKeys covers (place + 1) (keys ++ record { key = k; place = place } ∷ [])) (sym c.of-key.ensures)
    (has_more covers place cover keys at c.loop-place.invariant))
