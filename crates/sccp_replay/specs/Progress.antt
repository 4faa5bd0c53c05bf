-- How far a trace was taken.
use Rattle.std.specs.Prelude.{◌+◌, ◌≤◌, length}
use Rattle.sccp_replay.specs.Gathering.{IsBegun}
use Rattle.sccp_replay.specs.Replay.{Standing}
use Rattle.sccp_replay.specs.declared.progress.Progress.{Progress}

-- this number of its lines was taken so far
pub record IsCounted (at : Standing) (p : Progress) : Type 0 where
  pub begun : IsBegun at.first p.batch
  pub few : length at.later + length p.batch ≤ p.count
