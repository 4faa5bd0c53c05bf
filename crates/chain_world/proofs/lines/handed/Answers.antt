use Rattle.std.proofs.Common.{ℕ, Option, map, ap, sym, ◌∙◌}
use Rattle.chain_world.specs.Staged.{told_piece, pieces_in, delivered_by}
use Rattle.chain_world.proofs.Lined.{nothing_for}
use Rattle.chain_world.proofs.lines.handed.Goals as goal

pub returns-in-None : goal.returns-in-None
returns-in-None c =
    ap (map told_piece) c.new.ensures
    ∙ sym (nothing_for (delivered_by c.args.links.now c.args.from c.args.to))
    ∙ ap (λ (o : Option ℕ). pieces_in o (delivered_by c.args.links.now c.args.from c.args.to)) (sym c.in-None.is)
