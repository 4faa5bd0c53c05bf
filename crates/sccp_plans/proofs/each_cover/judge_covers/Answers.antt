use Rattle.std.proofs.Common.{◌≡◌, ◌+◌, ◌∷◌, ◌++◌, [], List, Some, Ok, Err, length, drop, refl, sym, ◌∙◌, ap, subst, length-append, arith}
use Rattle.std.specs.Prelude.{slice_get}
use Rattle.std.proofs.lemmas.Iterator.Adapters.{YieldsList-from_vec}
use Rattle.std.proofs.lemmas.Iterator.Consumers.{YieldsList-turn}
use Rattle.std.proofs.lemmas.List.{drop_more}
use Rattle.std.proofs.lemmas.Option.{slice_get_read}
use Rattle.std.proofs.lemmas.Result.{err_from_is_err_and}
use Rattle.plan_model.proofs.Alone.{alone_sound}
use Rattle.plan_model.specs.Network.{IsPlan, network_within}
use Rattle.plan_model.specs.declared.cover.Cover.{Cover}
use Rattle.sccp_plans.specs.Covers.{GivesNext}
use Rattle.sccp_work.specs.Moment.{Moment, with_sink}
use Rattle.sccp_plans.proofs.CoversLemmas.{CoversLeft, next_left, stopped_left}
use Rattle.sccp_plans.proofs.each_cover.judge_covers.Goals as goal

pub judge_cover-requires-clause-plan : goal.judge_cover-requires-clause-plan
judge_cover-requires-clause-plan g c =
    let v = c.into_vec-cover-items in
    let it = c.into_iter-cover-iterator in
    let t = YieldsList-turn (YieldsList-from_vec {s = it.result} c.args.plan.covers (it.ensures.into_iter_gives.0
    ∙ v.ensures ∙ c.into_parts-nodes.ensures.covers) (it.ensures.into_iter_gives.1 ∙ v.result.ok.0
    ∙ ap length (v.ensures ∙ c.into_parts-nodes.ensures.covers))) c.loop-cover.yielded c.loop-cover.cover-iterator c.loop-cover.yielded_by _
    c.next.new.self c.in-Some.cover c.in-Some.is c.next.ensures.steps in
    let at : slice_get c.args.plan.covers (length c.loop-cover.yielded) ≡ Some c.in-Some.cover =
    slice_get_read c.args.plan.covers (length c.args.plan.covers) (length c.loop-cover.yielded) c.in-Some.cover refl t.0 t.1 in
    subst (λ limits. IsPlan (network_within limits c.loop-cover.judging.nodes (c.in-Some.cover ∷ []))) (sym c.limits-limits.ensures)
    (subst (λ nodes. IsPlan (network_within c.args.plan.limits nodes (c.in-Some.cover ∷ []))) (sym c.loop-cover.invariant.nodes)
    (alone_sound c.args.plan (length c.loop-cover.yielded) c.in-Some.cover c.into_parts-nodes.ensures.sound at))

pub returns-in_err-judging-clause-gives : goal.returns-in_err-judging-clause-gives
returns-in_err-judging-clause-gives g c =
    let v = c.into_vec-cover-items in
    let it = c.into_iter-cover-iterator in
    let t = YieldsList-turn (YieldsList-from_vec {s = it.result} c.args.plan.covers (it.ensures.into_iter_gives.0
    ∙ v.ensures ∙ c.into_parts-nodes.ensures.covers) (it.ensures.into_iter_gives.1 ∙ v.result.ok.0
    ∙ ap length (v.ensures ∙ c.into_parts-nodes.ensures.covers))) c.loop-cover.yielded c.loop-cover.cover-iterator c.loop-cover.yielded_by _
    c.next.new.self c.in-Some.cover c.in-Some.is c.next.ensures.steps in
    let p = err_from_is_err_and c.from_residual.result c.from_residual.ensures.1 in
    let rest : List Cover = drop (length c.loop-cover.yielded + 1) c.args.plan.covers in
    let more : drop (length c.loop-cover.yielded) c.args.plan.covers ≡ c.in-Some.cover ∷ rest =
    drop_more c.args.plan.covers (length c.loop-cover.yielded) c.in-Some.cover t.0 ∙ ap (λ cover. cover ∷ rest) (sym t.1) in
    rw (p.1, p.2) (λ any.
    let first : Moment = with_sink any g.K.Sink.taken g.K.Sink.faults c.args.out.now in
    let now : Moment = with_sink any g.K.Sink.taken g.K.Sink.faults c.loop-cover.out in
    let after : Moment = with_sink any g.K.Sink.taken g.K.Sink.faults c.judge_cover.new.out in
    stopped_left c.args.plan c.loop-cover.number c.in-Some.cover rest c.loop-cover.judging.tally c.in_err-judging.field-0.0 first now after
    (subst (λ covers. CoversLeft c.args.plan c.loop-cover.number covers c.loop-cover.judging.tally first now) more
    (c.loop-cover.invariant.left any))
    (subst (λ nodes. GivesNext c.args.plan.limits nodes c.loop-cover.number c.in-Some.cover c.loop-cover.judging.tally
    (Err c.in_err-judging.field-0.0) now after) c.loop-cover.invariant.nodes
    (subst (λ limits. GivesNext limits c.loop-cover.judging.nodes c.loop-cover.number c.in-Some.cover c.loop-cover.judging.tally
    (Err c.in_err-judging.field-0.0) now after) c.limits-limits.ensures (c.in_err-judging.ensures.gives any))))

pub loop-cover-preserved : goal.loop-cover-preserved
loop-cover-preserved g c =
    let v = c.into_vec-cover-items in
    let it = c.into_iter-cover-iterator in
    let t = YieldsList-turn (YieldsList-from_vec {s = it.result} c.args.plan.covers (it.ensures.into_iter_gives.0
    ∙ v.ensures ∙ c.into_parts-nodes.ensures.covers) (it.ensures.into_iter_gives.1 ∙ v.result.ok.0
    ∙ ap length (v.ensures ∙ c.into_parts-nodes.ensures.covers))) c.loop-cover.yielded c.loop-cover.cover-iterator c.loop-cover.yielded_by _
    c.next.new.self c.in-Some.cover c.in-Some.is c.next.ensures.steps in
    let rest : List Cover = drop (length c.loop-cover.yielded + 1) c.args.plan.covers in
    let more : drop (length c.loop-cover.yielded) c.args.plan.covers ≡ c.in-Some.cover ∷ rest =
    drop_more c.args.plan.covers (length c.loop-cover.yielded) c.in-Some.cover t.0 ∙ ap (λ cover. cover ∷ rest) (sym t.1) in
    let count : length (c.loop-cover.yielded ++ c.in-Some.cover ∷ []) ≡ length c.loop-cover.yielded + 1 =
    length-append c.loop-cover.yielded (c.in-Some.cover ∷ []) in
    let kept = c.loop-cover.invariant in
    let e = c.in_ok-judging.ensures in
    record {
      left = rw count (λ any.
          let first : Moment = with_sink any g.K.Sink.taken g.K.Sink.faults c.args.out.now in
          let now : Moment = with_sink any g.K.Sink.taken g.K.Sink.faults c.loop-cover.out in
          let after : Moment = with_sink any g.K.Sink.taken g.K.Sink.faults c.judge_cover.new.out in
          next_left c.args.plan c.loop-cover.number c.in-Some.cover rest c.loop-cover.judging.tally c.in_ok-judging.judging first now after
          (subst (λ covers. CoversLeft c.args.plan c.loop-cover.number covers c.loop-cover.judging.tally first now) more
          (kept.left any))
          (subst (λ nodes. GivesNext c.args.plan.limits nodes c.loop-cover.number c.in-Some.cover c.loop-cover.judging.tally
          (Ok c.in_ok-judging.judging) now after) kept.nodes
          (subst (λ limits. GivesNext limits c.loop-cover.judging.nodes c.loop-cover.number c.in-Some.cover c.loop-cover.judging.tally
          (Ok c.in_ok-judging.judging) now after) c.limits-limits.ensures (e.gives any))));
      nodes = e.nodes ∙ kept.nodes;
      place = omega (arith, count, kept.place);
      count = omega (arith, count, kept.count, e.one_more);
    }
