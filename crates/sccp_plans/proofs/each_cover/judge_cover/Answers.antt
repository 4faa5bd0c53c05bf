use Rattle.std.proofs.Common.{◌≡◌, ◌+◌, [], ◌∷◌, ◌∙◌, ap, subst, refl}
use Rattle.std.proofs.lemmas.Result.{err_from_is_err_and}
use Rattle.plan_model.specs.Network.{Network, network_within}
use Rattle.plan_verify.specs.Lawful.{IsLawful, AcceptsBelowLimit, plan_of}
use Rattle.sccp_report.specs.Covers.{cover_text}
use Rattle.sccp_plans.specs.Covers.{covers_on}
use Rattle.sccp_work.specs.Ending.{Works}
use Rattle.sccp_work.specs.Moment.{Moment, with_sink}
use Rattle.sccp_work.proofs.WorkLemmas.{Works-memory}
use Rattle.sccp_plans.proofs.CoversLemmas.{AfterVerdict, verdict_told}
use Rattle.sccp_plans.proofs.each_cover.judge_cover.Goals as goal

pub returns-in_err-verdict-clause-gives : goal.returns-in_err-verdict-clause-gives
returns-in_err-verdict-clause-gives g c =
    let p = err_from_is_err_and c.from_residual-in_err-verdict.result c.from_residual-in_err-verdict.ensures.1 in
    rw (p.1, p.2) (λ any covers.
    Works-memory (covers_on c.args.limits c.args.judging.nodes c.args.number (c.args.cover ∷ covers) c.args.judging.tally)
    (with_sink any g.K.Sink.taken g.K.Sink.faults c.args.out.now))

pub returns-in-Ok-clause-gives : goal.returns-in-Ok-clause-gives
returns-in-Ok-clause-gives g c =
    let one : Network = network_within c.args.limits c.args.judging.nodes (c.args.cover ∷ []) in
    let v = c.in_ok-verdict.verdict in
    let e = c.in_ok-verdict.ensures in
    let same : plan_of v ≡ one = e.same ∙ c.in_ok-plan.ensures in
    λ any.
    let b : Moment = with_sink any g.K.Sink.taken g.K.Sink.faults c.args.out.now in
    let m : Moment = with_sink any g.K.Sink.taken g.K.Sink.faults c.print_verdict.new.out in
    λ covers result after w.
    subst (λ put. AfterVerdict c.args.limits c.args.judging.nodes c.args.number c.args.cover covers c.args.judging.tally v put b m)
    c.in-Ok.is
    (verdict_told c.args.limits c.args.judging.nodes c.args.number c.args.cover covers c.args.judging.tally v
    (cover_text c.args.number (plan_of v) v)
    c.print_verdict.result b m (
      c.requires.plan,
      subst (λ plan. IsLawful plan v) c.in_ok-plan.ensures e.lawful,
      subst (λ plan. AcceptsBelowLimit plan v) c.in_ok-plan.ensures e.below,
    )
    (ap (λ plan. cover_text c.args.number plan v) same) c.print_verdict.ensures
    (record { contents = refl; sound = refl; read_faults = refl })) result after
    (subst (λ tally. Works (covers_on c.args.limits c.args.judging.nodes
    (c.args.number + 1) covers tally) result m after) c.counted-tally.ensures w)
