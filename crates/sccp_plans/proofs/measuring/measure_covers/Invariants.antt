use Rattle.std.proofs.Common.{◌≤◌}
use Rattle.sccp_plans.specs.MarginTallies.{total}
use Rattle.sccp_plans.proofs.MarginLemmas.{MarginsLeft}
use Rattle.sccp_work.specs.Moment.{Moment, with_sink}
use Rattle.sccp_plans.proofs.measuring.measure_covers.Given as goal

-- the margins so far are printed, and these covers are left
abbrev pub invariant-loop-number : goal.invariant-loop-number
invariant-loop-number g l = record {
  left : (any : Moment) → MarginsLeft l.plan l.limit l.number l.tally
      (with_sink any g.K.Sink.taken g.K.Sink.faults l.fn.out)
      (with_sink any g.K.Sink.taken g.K.Sink.faults l.out);
  count : total l.tally ≤ l.number;
}
