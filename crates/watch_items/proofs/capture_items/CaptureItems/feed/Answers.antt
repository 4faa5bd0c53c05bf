use Rattle.std.proofs.Common.{List, ◌++◌, map, ap, subst, sym, ◌∙◌}
use Rattle.capture_file.specs.Views.{captured}
use Rattle.capture_file.specs.declared.held.Held.{Held}
use Rattle.watch_items.specs.Captures.{State, after_packets, items_of_packets}
use Rattle.watch_items.specs.Steps.{Feeds}
use Rattle.watch_items.proofs.PacketLemmas.{fed, stops_at}
use Rattle.watch_items.proofs.capture_items.CaptureItems.feed.Goals as goal

pub returns-clause-feeds : goal.returns-clause-feeds
returns-clause-feeds c =
    let old : State = record { reader = c.self.inside.reader; now = c.self.inside.packets } in
    let new : State = record { reader = c.feed.new.self; now = c.take_packets-taken.new.self } in
    let taken = c.in_ok-taken.ensures in
    subst (λ (s : State). Feeds s c.args.piece.now c.args.items.now c.take_packets-taken.new.items new) c.self.view_is
    (fed old new c.args.piece.now (map captured c.in_ok-fed.fed.packets) c.args.items.now c.take_packets-taken.new.items
    c.in_ok-fed.ensures.goes_on
    (taken.now ∙ ap (λ (ps : List Held). after_packets (map captured ps) c.self.inside.packets) c.as_slice.ensures)
    (taken.items
    ∙ ap (λ (ps : List Held). c.args.items.now ++ items_of_packets (map captured ps) c.self.inside.packets) c.as_slice.ensures))

pub returns-clause-stops : goal.returns-clause-stops
returns-clause-stops c = λ stops.
    let new : State = record { reader = c.feed.new.self; now = c.take_packets-taken.new.self } in
    stops_at new c.in_ok-fed.fed.fault c.in_ok-fed.ensures.fault (sym stops ∙ c.is_some-stops.ensures)
