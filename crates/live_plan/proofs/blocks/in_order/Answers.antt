use Rattle.std.proofs.Common.{◌≡◌, ◌<◌, true, List, ◌++◌, drop, length, map, take, nat_eq, slice_index_or, sym, ap, ◌∙◌, subst}
use Rattle.std.specs.List.{All}
use Rattle.std.proofs.lemmas.Bool.{eqb-true}
use Rattle.std.proofs.lemmas.List.Quantifiers.{position-Some}
use Rattle.relay_net.specs.declared.served.Served.{Served}
use Rattle.live_plan.specs.declared.blocks.Block.{Block}
use Rattle.live_plan.specs.Blocks.{HasAnswers}
use Rattle.live_plan.proofs.Joined.{All-remove, two_parts}
use Rattle.live_plan.proofs.blocks.in_order.Goals as goal

pub loop-place-preserved : goal.loop-place-preserved
loop-place-preserved c = λ answer jobs all.
    let before = c.loop-place.invariant answer jobs all in
    let left : List Block = c.loop-place.left.items in
    let answers : List Served = c.loop-place.answers.items in
    let place = c.in-Some.place in
    let block : Block = c.remove-block.result in
    let count : c.len.result ≡ length answers = c.len.ensures ∙ c.loop-place.answers.ok.0 in
    let found = position-Some (λ (b : Block). nat_eq b.from c.len.result) c.as_slice.result.now place block (sym c.place_of.ensures
    ∙ c.in-Some.is) in
    let inside = subst (λ (l : List Block). place < length l) c.as_slice.ensures.value found.0 in
    let at = subst (λ (l : List Block). nat_eq (slice_index_or l place block).from c.len.result ≡ true) c.as_slice.ensures.value found.1 in
    let is : HasAnswers answer jobs block = subst (HasAnswers answer jobs) (sym c.remove-block.ensures.value)
    (before.0 place block inside) in
    let from : block.from ≡ length answers = subst (λ (b : Block). b.from ≡ c.len.result) (sym c.remove-block.ensures.value)
    (eqb-true _ _ at) ∙ count in
    let then : block.answers ≡ map answer (take (length block.answers) (drop (length answers) jobs)) =
    subst (λ n. block.answers ≡ map answer (take (length block.answers) (drop n jobs))) from is in
    let longer : c.append.new.self.items ≡ answers ++ block.answers = c.in_ok-append.ensures.items
    ∙ ap (λ (l : List Served). answers ++ l) c.into_vec.ensures in (
      subst (All (HasAnswers answer jobs)) (sym c.remove-block.ensures.items) (All-remove (HasAnswers answer jobs) left place before.0),
      subst (λ (l : List Served). l ≡ map answer (take (length l) jobs)) (sym longer)
          (two_parts answer jobs answers block.answers before.1 then),
    )
