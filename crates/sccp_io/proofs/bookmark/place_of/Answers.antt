use Rattle.std.proofs.Common.{◌∙◌, arith}
use Rattle.sccp_io.proofs.Named.{named_from}
use Rattle.sccp_io.proofs.bookmark.place_of.Goals as goal

pub returns-then-eq : goal.returns-then-eq
returns-then-eq c =
    c.loop-place.invariant
    ∙ named_from c.args.files.now c.loop-place.place c.args.name.now c.index-files-place.result (omega arith) c.index-files-place.is (cc)
