use Rattle.std.proofs.Common.{◌≡◌, suc, ◌+◌, ◌-◌, sym, ◌∙◌, ap, arith}
use Rattle.made_load.specs.Draws.{after_digits}
use Rattle.made_load.proofs.draws.Draws.pass.Goals as goal

pub loop-turn-preserved : goal.loop-turn-preserved
loop-turn-preserved c =
    let left : 10 - c.loop-turn._turn ≡ suc (10 - (c.loop-turn._turn + 1)) = omega arith in
    ap (λ x. after_digits (10 - (c.loop-turn._turn + 1)) x) c.draw.ensures.next ∙ sym (ap (λ n. after_digits n c.loop-turn.self) left)
    ∙ c.loop-turn.invariant
