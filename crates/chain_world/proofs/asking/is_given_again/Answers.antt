use Rattle.std.proofs.Common.{◌+◌, ◌-◌, ◌∙◌, ℕ, length, ap, arith}
use Rattle.std.specs.Prelude.{◌==◌, drop}
use Rattle.std.specs.List.{list_any}
use Rattle.std.proofs.lemmas.List.{length-drop, take_all}
use Rattle.std.proofs.lemmas.Option.{get_or_from_slice_get}
use Rattle.chain_world.proofs.asking.is_given_again.Goals as goal

pub returns : goal.returns
returns c = λ own at.
    c.is_among.ensures
    ∙ ap (list_any (λ m. m == c.index-given-place.result))
    (take_all (length c.args.given.now - (c.args.place + 1)) (drop (c.args.place + 1) c.args.given.now)
    (let e = length-drop (c.args.place + 1) c.args.given.now in omega (arith, e)))
    ∙ ap (λ (n : ℕ). list_any (λ m. m == n) (drop (c.args.place + 1) c.args.given.now)) (c.index-given-place.is
    ∙ get_or_from_slice_get c.args.given.now c.args.place own c.index-given-place.result at)
