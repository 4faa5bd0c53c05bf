use Rattle.std.proofs.Common.{List, ◌≡◌, length, refl, subst, slice_index_or}
use Rattle.std.proofs.lemmas.Option.{slice_get_read}
use Rattle.plan_rules.specs.Rule.{Rule}
use Rattle.plan_rules.proofs.table.Table.row.Goals as goal

pub returns : goal.returns
returns c =
    let same : c.as_slice.result.now ≡ c.args.self.now = cc in
    let q = c.index-as_slice-i.result in
    slice_get_read c.args.self.now (length c.args.self.now) c.args.i q refl c.requires
    (subst (λ (rows : List Rule). q ≡ slice_index_or rows c.args.i q) same c.index-as_slice-i.is)
