use Rattle.std.proofs.Common.{◌≡◌, drop, length}
use Rattle.sccp_plans.specs.Tallies.{total}
use Rattle.sccp_plans.proofs.CoversLemmas.{CoversLeft}
use Rattle.sccp_work.specs.Moment.{Moment, with_sink}
use Rattle.sccp_plans.proofs.each_cover.judge_covers.Given as goal

-- the covers so far are judged, and these are left
abbrev pub invariant-loop-cover : goal.invariant-loop-cover
invariant-loop-cover g l = record {
  left : (any : Moment) → CoversLeft l.fn.plan l.number
      (drop (length l.yielded) l.fn.plan.covers) l.judging.tally
      (with_sink any g.K.Sink.taken g.K.Sink.faults l.fn.out)
      (with_sink any g.K.Sink.taken g.K.Sink.faults l.out);
  nodes : l.judging.nodes ≡ l.fn.plan.nodes;
  place : l.number ≡ length l.yielded;
  count : total l.judging.tally ≡ length l.yielded;
}
