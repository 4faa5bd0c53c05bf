use Rattle.std.proofs.Common.{sym, ap, arith}
use Rattle.capture_file.specs.Views.{at_of}
use Rattle.capture_file.proofs.PieceLemmas.{going-read, room-read}
use Rattle.capture_file.proofs.pieces.take_units.Goals as goal

pub units-preserved : goal.units-preserved
units-preserved c = record {
  going = going-read _ _ _ _ _ _ _ _ _ _ _ _ _ _ c.units.invariant.going (sym c.in-Read.ensures.exact)
      (omega arith) c.in_ok-put_lent-in-Read.ensures (ap (at_of c.in-Read.read.next) c.in_ok-change-in-Read.ensures);
  room = room-read _ _ _ _ _ c.in-Read.ensures.progress.1 c.units.invariant.room;
}
