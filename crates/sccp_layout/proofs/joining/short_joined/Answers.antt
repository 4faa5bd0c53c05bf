use Rattle.std.proofs.Common.{ℕ, List, ◌++◌, ap, ◌∙◌}
use Rattle.std.proofs.lemmas.Result.{err_from_is_err_and}
use Rattle.sccp_layout.specs.Parts.{parts_made}
use Rattle.sccp_layout.specs.Joining.{is_memory, spelled_list}
use Rattle.sccp_layout.proofs.Pieces.{none_long, join_far, join_ok}
use Rattle.sccp_layout.proofs.joining.short_joined.Goals as goal

pub with_pointers-requires-clause-short : goal.with_pointers-requires-clause-short
with_pointers-requires-clause-short c = (none_long c.args.layout.now 0 c.args.variable.now c.args.params.now c.requires.short).0

pub push_parts-requires-clause-short : goal.push_parts-requires-clause-short
push_parts-requires-clause-short c = (none_long c.args.layout.now 0 c.args.variable.now c.args.params.now c.requires.short).0

pub push_list-requires : goal.push_list-requires
push_list-requires c = (none_long c.args.layout.now 0 c.args.variable.now c.args.params.now c.requires.short).1

pub returns-in_err-octets-clause-exact : goal.returns-in_err-octets-clause-exact
returns-in_err-octets-clause-exact c =
    let made = parts_made c.args.code c.args.fixed.now c.args.variable.now c.args.params.now in
    let p = err_from_is_err_and c.from_residual-in_err-octets.result c.from_residual-in_err-octets.ensures.1 in
    let far = rw c.in_ok-start.ensures at c.in_err-octets.ensures in
    rw (p.1, p.2) (join_far (is_memory c.in_err-octets.field-0.0) c.args.layout.now made c.in_err-octets.field-0.0 c.requires.short far)

pub returns-clause-exact : goal.returns-clause-exact
returns-clause-exact c =
    let made = parts_made c.args.code c.args.fixed.now c.args.variable.now c.args.params.now in
    let near = rw c.in_ok-start.ensures at c.in_ok-octets.ensures in
    join_ok c.args.layout.now made c.in_ok-octets.octets.items c.from_vec.result c.requires.short c.requires.fits near (c.from_vec.ensures
    ∙ c.in_ok-push_list.ensures.spelled ∙ ap (λ (x : List ℕ). x ++ spelled_list c.args.params.now) c.in_ok-push_parts.ensures)
