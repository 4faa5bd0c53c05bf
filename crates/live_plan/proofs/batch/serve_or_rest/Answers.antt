use Rattle.std.proofs.Common.{rules, ◌≡◌, ◌<◌, length, get_or, sym, ◌∙◌, subst}
use Rattle.live_plan.specs.Batches.{Rests}
use Rattle.live_plan.proofs.Passes.{rests_on}
use Rattle.live_plan.proofs.batch.serve_or_rest.Goals as goal

pub rest_all-requires-clause-nodes : goal.rest_all-requires-clause-nodes
rest_all-requires-clause-nodes g c i d lt =
    let long : length c.serve_beside.new.workers ≡ length c.args.workers.now = search rules in
    let inside : i < length c.args.workers.now = subst (λ n. i < n) long lt in
    let l = (c.serve_beside.ensures.served i d inside).goes_on.lasts 0 in
    λ k p at. c.requires.spares k p at ∙ sym (l.nodes ∙ c.requires.states i d inside)

pub returns-in-Err-clause-rests : goal.returns-in-Err-clause-rests
returns-in-Err-clause-rests g c i d lt =
    let long : length c.serve_beside.new.workers ≡ length c.args.workers.now = search rules in
    let inside : i < length c.serve_beside.new.workers = subst (λ n. i < n) (sym long) lt in
    let v = get_or c.serve_beside.new.workers i d in
    let w = get_or c.rest_all.new.workers i d in
    rests_on _ (get_or c.args.workers.now i d) v w (c.serve_beside.ensures.served i d lt).goes_on
    (subst (λ n. Rests n v w) c.number-number.ensures (c.rest_all.ensures.each i d inside))
