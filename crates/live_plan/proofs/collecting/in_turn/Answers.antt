use Rattle.std.proofs.Common.{rules, ◌≡◌, ◌<◌, ◌+◌, ◌%◌, ◌++◌, ◌∷◌, [], List, length, get_or, set, refl, ap, sym, ◌∙◌, subst, length-append}
use Rattle.relay_net.specs.declared.served.Served.{Served}
use Rattle.live_plan.proofs.Turns.{Taken, taken_next, told_next}
use Rattle.live_plan.proofs.collecting.in_turn.Goals as goal

pub loop-answers-preserved : goal.loop-answers-preserved
loop-answers-preserved c =
    let start = c.args.shares.now in
    let now = c.loop-answers.shares in
    let answers : List Served = c.loop-answers.answers in
    let t = c.loop-answers.invariant.1 in
    let served : Served = c.in-Some.served in
    let left = c.pop_front.new.self in
    let longer : c.push.new.self ≡ answers ++ served ∷ [] = c.in_ok-push.ensures.ok in
    let place : length c.as_slice-in-loop-answers.result.now % length now ≡ length answers % length start =
    ap (λ (l : List Served). length l % length now) c.as_slice-in-loop-answers.ensures ∙ ap (λ n. length answers % n) t.long in
    let here : (get_or now (length answers % length start) c.index-shares-share.result).items ≡ served ∷ left.items =
    subst (λ n. (get_or now n c.index-shares-share.result).items ≡ served ∷ left.items) place c.in-Some.ensures.items in
    let more : length (answers ++ served ∷ []) ≡ length answers + 1 = length-append answers (served ∷ []) in
    let next = taken_next (λ q. q.items) start now (length answers) t c.requires.some left served c.index-shares-share.result here in
    let told = told_next (λ q. q.items) start now
    (length answers) t c.requires.some left served c.index-shares-share.result here answers refl c.loop-answers.invariant.2 in
    let count : length c.push.new.self ≡ length answers + 1 = ap length longer ∙ more in (
      search (rules, count),
      subst (Taken (λ q. q.items) start (set now (length c.as_slice-in-loop-answers.result.now % length now) left)) (sym count)
          (subst (λ n. Taken (λ q. q.items) start (set now n left) (length answers + 1)) (sym place) next),
      (λ i d lt. rw longer (told i d (subst (λ n. i < n) count lt))),
    )
