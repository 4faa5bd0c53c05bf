use Rattle.std.proofs.Common.{◌<◌, ◌+◌, ◌^◌, length, map}
use Rattle.capture_file.specs.Standings.{GoesOn}
use Rattle.capture_file.specs.Views.{at_of, captured}
use Rattle.capture_file.proofs.pieces.take_units.Given as goal

abbrev pub invariant-units : goal.invariant-units
invariant-units l = record {
  going : GoesOn (map captured l.fn.packets.items) (at_of l.fn.start l.fn.section) l.from l.octets (map captured l.packets.items)
      (at_of l.expected l.section) l.place l.rest;
  room : l.place + length l.rest < 2 ^ 64;
}

abbrev pub decreases-units : goal.decreases-units
decreases-units l = length l.rest
