use Rattle.std.proofs.Common.{◌≡◌, ◌+◌, ◌-◌, length}
use Rattle.sccp_work.specs.Opened.{this, other}
use Rattle.sccp_work.proofs.ReadingLemmas.{Partway}
use Rattle.sccp_work.proofs.reading.read_whole.Given as goal

abbrev pub invariant-loop-which : goal.invariant-loop-which
invariant-loop-which g l =
    Partway l.fn.name l.octets.items (g.F.Files.contents l.fn.files) (g.F.Files.contents l.files)
    (this l.which (g.F.Files.left l.files) (g.F.Files.left_beside l.files))
    (g.F.Files.sound l.fn.files) (g.F.Files.sound l.files) (g.F.Files.faults l.fn.files) (g.F.Files.faults l.files)
    × (other l.which (g.F.Files.left l.files) (g.F.Files.left_beside l.files) ≡ other l.which (g.F.Files.left l.fn.files)
    (g.F.Files.left_beside l.fn.files))

abbrev pub decreases-loop-which : goal.decreases-loop-which
decreases-loop-which g l = l.limit + 1 - length l.octets.items
