use Rattle.std.proofs.Common.{◌≡◌, ◌+◌, ◌<◌, ◌++◌, ◌∷◌, [], ℕ, List, length, get_or, ap, sym, ◌∙◌, subst}
use Rattle.std.proofs.lemmas.List.{length_push}
use Rattle.live_plan.proofs.Rows.{all_push}
use Rattle.live_plan.proofs.live.all_hired.Goals as goal

pub loop-index-preserved : goal.loop-index-preserved
loop-index-preserved c =
    let all = c.loop-index.all.items in
    let n = c.loop-index.index in
    let w = c.in_ok-worker.worker in
    let nodes = c.args.teller.now.nodes in
    let h = c.loop-index.invariant in
    let longer : c.push.new.self.items ≡ all ++ w ∷ [] = c.in_ok-push.ensures.items in
    subst (λ (l : List _). (length l ≡ n + 1) × ((i : ℕ) (d : _) → i < n + 1 → (get_or l i d).index ≡ i)
    × ((i : ℕ) (d : _) → i < n + 1 → (get_or l i d).place.nodes ≡ nodes)) (sym longer) (
      length_push all w ∙ ap (λ k. k + 1) h.0,
      all_push (λ i v. v.index ≡ i) all w n h.0 h.1 c.in_ok-worker.ensures.index,
      all_push (λ i v. v.place.nodes ≡ nodes) all w n h.0 h.2 c.in_ok-worker.ensures.nodes,
    )
