use Rattle.std.proofs.Common.{◌≡◌, ◌≤◌, ◌++◌, drop, length, map}
use Rattle.sccp_replay.specs.Replayers.{jobs_from, settled_in}
use Rattle.sccp_replay.proofs.crew.jobs_of.Given as goal

abbrev pub invariant-loop-one : goal.invariant-loop-one
invariant-loop-one l = record {
  jobs : l.jobs ++ jobs_from (length l.jobs) (map settled_in (drop l.one-index l.settled)) ≡ jobs_from 0 (map settled_in l.fn.settled);
  few : length l.jobs ≤ l.one-index;
}
