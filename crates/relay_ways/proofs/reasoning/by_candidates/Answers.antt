use Rattle.std.proofs.Common.{◌≡◌, ◌+◌, ◌∙◌, map, drop, sym, subst}
use Rattle.std.specs.List.{filter}
use Rattle.relay_ways.specs.WhyNot.{by_candidate, by_candidates, has_cause, latest}
use Rattle.relay_ways.specs.declared.reason.Reason.{Reason}
use Rattle.relay_ways.proofs.ReasonLemmas.{candidates_next}
use Rattle.relay_ways.proofs.reasoning.by_candidates.Goals as goal

pub loop-one-preserved : goal.loop-one-preserved
loop-one-preserved c =
    subst (λ (r : Reason). latest r (map (by_candidate c.args.to c.args.sent.now)
    (filter (has_cause c.args.cause) (drop (c.loop-one.one-index + 1) c.args.found.now)))
    ≡ by_candidates c.args.to c.args.sent.now (filter (has_cause c.args.cause) c.args.found.now)) (sym c.in_ok-latest.ensures)
    (candidates_next c.args.to c.args.sent.now c.args.cause c.loop-one.latest c.args.found.now c.loop-one.one-index c.one-item.result
    c.loop-one-test.true c.one-item.is ∙ c.loop-one.invariant)
