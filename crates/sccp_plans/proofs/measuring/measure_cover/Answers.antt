use Rattle.std.proofs.Common.{◌+◌, ◌≤◌, suc, subst, refl, sym, arith}
use Rattle.std.proofs.lemmas.Result.{err_from_is_err_and}
use Rattle.sccp_plans.specs.Margin.{margins_on}
use Rattle.sccp_plans.specs.MarginTallies.{total}
use Rattle.sccp_work.specs.Ending.{Works}
use Rattle.sccp_work.specs.Moment.{Moment, with_sink}
use Rattle.sccp_work.proofs.WorkLemmas.{Works-memory}
use Rattle.sccp_plans.proofs.MarginLemmas.{AfterMargin, margin_told, counted_more}
use Rattle.sccp_plans.proofs.measuring.measure_cover.Goals as goal

pub returns-in_err-margin-clause-gives : goal.returns-in_err-margin-clause-gives
returns-in_err-margin-clause-gives g c =
    let p = err_from_is_err_and c.from_residual.result c.from_residual.ensures.1 in
    rw (p.1, p.2) (λ any more.
    Works-memory (margins_on c.args.plan.now c.args.limit.now c.args.number (suc more) c.args.tally)
    (with_sink any g.K.Sink.taken g.K.Sink.faults c.args.out.now))

pub counted-next-requires : goal.counted-next-requires
counted-next-requires g c = omega (arith, c.requires.counted, c.requires.cover, c.requires.plan.cover_places)

pub returns-in-Ok-clause-gives : goal.returns-in-Ok-clause-gives
returns-in-Ok-clause-gives g c = λ any.
    let margin = c.in_ok-margin.margin in
    let b : Moment = with_sink any g.K.Sink.taken g.K.Sink.faults c.args.out.now in
    let m : Moment = with_sink any g.K.Sink.taken g.K.Sink.faults c.print_margin.new.out in
    λ more result after w.
    subst (λ put. AfterMargin c.args.plan.now c.args.limit.now c.args.number more c.args.tally margin put b m) c.in-Ok.is
    (margin_told c.args.plan.now c.args.limit.now c.args.number more c.args.tally margin c.print_margin.result b m
    (c.requires.plan, c.in_ok-margin.ensures) c.print_margin.ensures
    (record { contents = refl; sound = refl; read_faults = refl })) result after
    (subst (λ tally. Works (margins_on c.args.plan.now c.args.limit.now (c.args.number + 1) more tally) result m after)
    c.counted-next.ensures w)

pub returns-in-Ok-clause-one_more : goal.returns-in-Ok-clause-one_more
returns-in-Ok-clause-one_more g c =
    let more = counted_more c.args.tally c.in_ok-margin.margin in
    let less : total c.args.tally + 1 ≤ c.args.number + 1 = omega (arith, c.requires.counted) in
    subst (λ tally. total tally ≤ c.args.number + 1) (sym c.counted-next.ensures) (omega (arith, more, less))

pub returns-in-Err-clause-gives : goal.returns-in-Err-clause-gives
returns-in-Err-clause-gives g c = λ any.
    let margin = c.in_ok-margin.margin in
    let b : Moment = with_sink any g.K.Sink.taken g.K.Sink.faults c.args.out.now in
    let m : Moment = with_sink any g.K.Sink.taken g.K.Sink.faults c.print_margin.new.out in
    λ more.
    subst (λ put. AfterMargin c.args.plan.now c.args.limit.now c.args.number more c.args.tally margin put b m) c.in-Err.is
    (margin_told c.args.plan.now c.args.limit.now c.args.number more c.args.tally margin c.print_margin.result b m
    (c.requires.plan, c.in_ok-margin.ensures) c.print_margin.ensures
    (record { contents = refl; sound = refl; read_faults = refl }))
