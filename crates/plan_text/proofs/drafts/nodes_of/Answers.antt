use Rattle.std.proofs.Common.{◌≡◌, ◌≤◌, ◌+◌, ◌∙◌, ◌∷◌, ◌++◌, [], sym, ap, length, arith, length-append}
use Rattle.std.proofs.lemmas.List.Elements.{All-push, All-same}
use Rattle.std.proofs.lemmas.Iterator.Adapters.{YieldsList-from_vec}
use Rattle.std.proofs.lemmas.Iterator.Consumers.{YieldsList-turn, YieldsList-end}
use Rattle.std.proofs.lemmas.Result.{err_from_is_err_and}
use Rattle.plan_model.specs.Network.{IsNode}
use Rattle.plan_text.specs.Faults.{is_memory}
use Rattle.plan_text.specs.Tabled.{node_of, nodes_of}
use Rattle.plan_text.proofs.EachOk.{goes_on, ends, is_done}
use Rattle.plan_text.proofs.drafts.nodes_of.Goals as goal

pub loop-draft-preserved : goal.loop-draft-preserved
loop-draft-preserved c =
    let v = c.into_vec-draft-items in
    let it = c.into_iter-draft-iterator in
    let t = YieldsList-turn (YieldsList-from_vec {s = it.result} c.args.drafts (it.ensures.into_iter_gives.0
    ∙ v.ensures) (it.ensures.into_iter_gives.1 ∙ v.result.ok.0
    ∙ ap length v.ensures)) c.loop-draft.yielded c.loop-draft.draft-iterator c.loop-draft.yielded_by _ c.next.new.self c.in-Some.draft
    c.in-Some.is c.next.ensures.steps in
    let more : length (c.loop-draft.yielded ++ c.in-Some.draft ∷ []) ≡ length c.loop-draft.yielded + 1 =
    length-append c.loop-draft.yielded (c.in-Some.draft ∷ []) in
    record {
      value = rw (more, c.in_ok-put.ensures.ok)
          (goes_on (λ d. d) node_of c.loop-draft.nodes c.args.drafts (length c.loop-draft.yielded) c.in-Some.draft c.in_ok-node.node
          (nodes_of c.args.drafts) t.0 (sym t.1)
          (ap (λ i. node_of i c.in-Some.draft) (sym c.loop-draft.invariant.place)
          ∙ c.in_ok-node.ensures.value) c.loop-draft.invariant.value);
      place = omega (arith, more, c.loop-draft.invariant.place);
      sound = All-same IsNode _ _ c.in_ok-put.ensures.ok
          (All-push IsNode c.loop-draft.nodes c.in_ok-node.node c.loop-draft.invariant.sound c.in_ok-node.ensures.sound);
    }

pub returns-clause-value : goal.returns-clause-value
returns-clause-value c =
    let v = c.into_vec-draft-items in
    let it = c.into_iter-draft-iterator in
    let e = YieldsList-end (YieldsList-from_vec {s = it.result} c.args.drafts (it.ensures.into_iter_gives.0
    ∙ v.ensures) (it.ensures.into_iter_gives.1 ∙ v.result.ok.0
    ∙ ap length v.ensures)) c.loop-draft.yielded c.loop-draft.draft-iterator c.loop-draft.yielded_by _ c.next.new.self c.in-None.is
    c.next.ensures.steps in
    let le : length c.args.drafts ≤ length c.loop-draft.yielded = omega (arith, e.1) in
    is_done (λ d. d) node_of c.loop-draft.nodes c.args.drafts (length c.loop-draft.yielded)
    (nodes_of c.args.drafts) le c.loop-draft.invariant.value

pub returns-in_err-node-clause-value : goal.returns-in_err-node-clause-value
returns-in_err-node-clause-value c =
    let v = c.into_vec-draft-items in
    let it = c.into_iter-draft-iterator in
    let t = YieldsList-turn (YieldsList-from_vec {s = it.result} c.args.drafts (it.ensures.into_iter_gives.0
    ∙ v.ensures) (it.ensures.into_iter_gives.1 ∙ v.result.ok.0
    ∙ ap length v.ensures)) c.loop-draft.yielded c.loop-draft.draft-iterator c.loop-draft.yielded_by _ c.next.new.self c.in-Some.draft
    c.in-Some.is c.next.ensures.steps in
    let p = err_from_is_err_and c.from_residual.result c.from_residual.ensures.1 in
    rw (p.1, p.2) (ends is_memory c.in_err-node.field-0.0 (λ d. d) node_of c.loop-draft.nodes c.args.drafts
    (length c.loop-draft.yielded) c.in-Some.draft (nodes_of c.args.drafts) t.0 (sym t.1)
    (rw c.loop-draft.invariant.place at c.in_err-node.ensures.value) c.loop-draft.invariant.value)
