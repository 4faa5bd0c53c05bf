use Rattle.std.proofs.Common.{◌≡◌, ◌+◌, ◌≤◌, drop, length, map}
use Rattle.std.specs.List.{All}
use Rattle.sccp_replay.specs.Gathering.{lines_in}
use Rattle.sccp_work.specs.Moment.{moment}
use Rattle.sccp_replay.specs.Replayers.{ComesToNode, settled_in}
use Rattle.sccp_replay.specs.Replaying.{SettlesTo}
use Rattle.sccp_replay.specs.Routings.{ArePlans, ahead}
use Rattle.sccp_replay.proofs.settle.settle.Given as goal

-- the lines so far are settled, and these are left
abbrev pub invariant-loop-one : goal.invariant-loop-one
invariant-loop-one g l = record {
  settles : SettlesTo (ahead l.fn.at l.fn.coming) (lines_in l.fn.joined) (ahead l.fn.at l.coming) (map settled_in l.settled)
      (lines_in (drop (length l.yielded) l.fn.joined))
      (moment g.F.Files.contents g.F.Files.sound g.F.Files.faults g.K.Sink.taken g.K.Sink.faults l.fn.files l.fn.out)
      (moment g.F.Files.contents g.F.Files.sound g.F.Files.faults g.K.Sink.taken g.K.Sink.faults l.files l.out);
  plans : ArePlans l.fn.at.first (ahead l.fn.at l.coming).later;
  few : length (ahead l.fn.at l.coming).later ≤ length (ahead l.fn.at l.fn.coming).later + length l.yielded;
  as_many : length l.settled ≡ length l.yielded;
  fits : All (ComesToNode l.fn.at.first) l.settled;
  left : g.F.Files.left l.files ≡ g.F.Files.left l.fn.files;
}
