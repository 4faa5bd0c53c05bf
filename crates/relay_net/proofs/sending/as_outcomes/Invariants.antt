use Rattle.std.proofs.Common.{◌≡◌, ◌≤◌, map, length}
use Rattle.std.specs.Vec.{vec_len, vec_capacity}
use Rattle.relay_net.specs.declared.outcome.Outcome.TheVariants as outcomes
use Rattle.relay_net.proofs.sending.as_outcomes.Given as goal

-- the outcomes so far are those of what was taken, and there is room for the others
abbrev pub invariant-loop-message : goal.invariant-loop-message
invariant-loop-message l = record {
  items : l.outcomes.items ≡ map outcomes.Sent l.yielded;
  count : vec_len l.outcomes ≡ length l.yielded;
  room : length l.fn.sent ≤ vec_capacity l.outcomes;
}
