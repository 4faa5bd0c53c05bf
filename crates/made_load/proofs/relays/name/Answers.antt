use Rattle.std.proofs.Common.{◌∷◌, ap, ◌∙◌, sym, arith}
use Rattle.std.proofs.lemmas.Fmt.{decimal_digit}
use Rattle.made_load.proofs.relays.name.Goals as goal

pub returns : goal.returns
returns c = c.in-Some.ensures.name.1 ∙ ap (λ t. 110 ∷ t) (sym (decimal_digit c.args.place (omega (arith, c.requires))))
