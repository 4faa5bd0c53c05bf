use Rattle.std.proofs.Common.{sym, ◌∙◌, nat_cmp}
use Rattle.std.specs.BTreeMap.{get_by}
use Rattle.std.specs.Cmp.Lexicographic.{slice_cmp}
use Rattle.std.proofs.lemmas.Map.Text.{btree_map_updates_str}
use Rattle.plan_text.proofs.FirstPlaces.{new_name, not_there}
use Rattle.plan_text.proofs.names.put_first.Goals as goal

pub returns-in-Ok-clause-first : goal.returns-in-Ok-clause-first
returns-in-Ok-clause-first c =
    let old = c.args.places.now in
    new_name (λ q. get_by (λ k. slice_cmp nat_cmp q k.now) old) (λ q. get_by (λ k. slice_cmp nat_cmp q k.now) c.insert.new.self)
    c.args.name.now c.args.place (sym c.get.ensures.value ∙ not_there c.get.result c.if-is_some.ensures)
    (btree_map_updates_str c.args.name.now old c.insert.new.self _ c.in-Ok.ensures.updates)
