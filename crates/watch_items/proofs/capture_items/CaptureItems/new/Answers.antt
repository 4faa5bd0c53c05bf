use Rattle.watch_items.proofs.PacketLemmas.{at_beginning}
use Rattle.watch_items.specs.Captures.{State}
use Rattle.watch_items.proofs.capture_items.CaptureItems.new.Goals as goal

pub returns : goal.returns
returns c = λ octets.
    let s : State = record { reader = c.new.result; now = c.in_ok-new.field-0 } in
    at_beginning s c.new.ensures.start c.in_ok-new.ensures octets
