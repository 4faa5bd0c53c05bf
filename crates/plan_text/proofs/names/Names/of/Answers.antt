use Rattle.std.proofs.Common.{ℕ, List, Bor, Some, None, cond, map, sym, ◌∙◌, ap, nat_cmp}
use Rattle.std.specs.BTreeMap.{get_by, is_at}
use Rattle.std.specs.Cmp.Lexicographic.{slice_cmp}
use Rattle.std.specs.List.{position_from}
use Rattle.std.specs.Map.{lookup}
use Rattle.std.specs.Option.{option_or}
use Rattle.std.specs.Str.{bytes_eq}
use Rattle.std.proofs.lemmas.Iterator.Adapters.{position_from-zero}
use Rattle.toml.specs.View.{view}
use Rattle.plan_text.specs.Targets.{is_named}
use Rattle.plan_text.proofs.FirstPlaces.{goes_on_from}
use Rattle.plan_text.proofs.names.Names.of.Goals as goal

pub loop-place-init : goal.loop-place-init
loop-place-init c = λ name.
    ap (λ (es : List (Bor (List ℕ) × ℕ)). option_or (lookup (is_at (λ k. slice_cmp nat_cmp name k.now)) es)
    (position_from (is_named name) 0 (map view c.args.nodes.now))) c.new-places.ensures.empty
    ∙ sym (position_from-zero (is_named name) (map view c.args.nodes.now))

pub loop-place-preserved : goal.loop-place-preserved
unfolding is_named
loop-place-preserved c = λ name.
    let place = c.loop-place.place in
    let old = get_by (λ k. slice_cmp nat_cmp name k.now) c.loop-place.places in
    goes_on_from (is_named name) view c.args.nodes.now place c.index-nodes-place.result old _ _ c.loop-place-test.true
    (sym c.index-nodes-place.is) (c.in_ok-put_first.ensures.first name
    ∙ ap (λ (text : List ℕ). option_or old (cond (bytes_eq text name) (Some place) None)) (c.as_bytes.ensures.value ∙ c.text_at.ensures))
    (c.loop-place.invariant name)
