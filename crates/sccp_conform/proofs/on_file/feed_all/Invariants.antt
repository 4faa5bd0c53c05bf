use Rattle.std.proofs.Common.{List, ℕ}
use Rattle.sccp_conform.proofs.OnFileLemmas.{next_of}
use Rattle.sccp_conform.specs.Steps.{IsPartly, with_files}
use Rattle.sccp_work.specs.Moment.{Moment}
use Rattle.sccp_work.specs.Pieces.{GoesOn}
use Rattle.sccp_work.specs.Work.{Work}
use Rattle.watch_items.specs.Captures.{Heard}
use Rattle.sccp_conform.proofs.on_file.feed_all.Given as goal

-- whatever was to be done at first: of what may still follow of the file it is known what it gives
abbrev pub invariant-loop-turn : goal.invariant-loop-turn
invariant-loop-turn g l =
    (any first : Moment) (work : Work) (whole : List ℕ → Heard)
    → IsPartly l.plan whole l.fn.partly.capture l.fn.partly.watch l.fn.partly.text
    → GoesOn work (next_of l.plan whole) (g.F.Files.left l.fn.files) first
    (with_files any g.F.Files.contents g.F.Files.sound g.F.Files.faults l.fn.files)
    → (now : List ℕ → Heard) × IsPartly l.plan now l.partly.capture l.partly.watch l.partly.text
    × GoesOn work (next_of l.plan now) (g.F.Files.left l.files) first
    (with_files any g.F.Files.contents g.F.Files.sound g.F.Files.faults l.files)
