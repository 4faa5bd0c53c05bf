use Rattle.std.proofs.Common.{◌≡◌, take, length, length-take-le, arith, sym, ◌∙◌, ℕ}
use Rattle.std.proofs.lemmas.List.{get_or-take}
use Rattle.std.proofs.lemmas.List.Elements.{All-take}
use Rattle.plan_classes.specs.Classes.{Reachable}
use Rattle.plan_classes.proofs.laws.reaches_fewer.Goals as goal

pub returns : goal.returns
returns c = λ plan more fewer le h.
    let short : length (take fewer h.0) ≡ fewer = length-take-le fewer h.0 (omega (arith, h.1)) in (
      take fewer h.0,
      short,
      λ i j d lt in' same. h.2 i j d lt (omega (arith, h.1, short)) (sym (get_or-take fewer h.0 i d (omega (arith, short))) ∙ same
          ∙ get_or-take fewer h.0 j d (omega (arith, short))),
      All-take (λ k. (depth : ℕ) × Reachable plan depth k) fewer h.0 h.3,
    )
