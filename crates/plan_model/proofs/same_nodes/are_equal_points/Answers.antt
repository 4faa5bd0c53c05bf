use Rattle.std.proofs.lemmas.Bool.Decides.{Decides-eqb}
use Rattle.std.proofs.lemmas.Slice.Eq.{slice_eq-Decides}
use Rattle.plan_model.proofs.same_nodes.are_equal_points.Goals as goal

pub returns : goal.returns
returns c = slice_eq-Decides Decides-eqb c.args.old.now c.args.new.now c.eq.result c.eq.ensures
