-- No two messages of a capture have one number: they are counted from 1.
use Rattle.std.proofs.Common.{ℕ, ◌+◌, true, List, [], ◌∷◌, ◌++◌, Option, append_assoc, arith, refl, sym, subst}
use Rattle.capture_file.specs.Packets.{Captured as Packed, Packet, Bad}
use Rattle.capture_file.specs.Told.{told}
use Rattle.capture_file.specs.declared.file_fault.FileFault.{FileFault}
use Rattle.capture_trace.specs.declared.counts.Counts.{Counts}
use Rattle.capture_trace.specs.declared.kind.Kind.{Kind}
use Rattle.capture_trace.specs.declared.kind.Kind.TheVariants as kinds
use Rattle.capture_trace.specs.Items.{counted}
use Rattle.capture_trace.specs.Traced.{Standing, beginning, or_other, with_packet}
use Rattle.capture_trace.specs.Words.{bad_packet_word}
use Rattle.packet_layers.specs.Layers.{found_in}
use Rattle.packet_layers.specs.Values.{Carried}
use Rattle.relay_watch.specs.Runs.{NumbersDiffer}
use Rattle.relay_watch.specs.declared.event.Event.{Event}
use Rattle.watch_items.specs.Captures.{after_packets, after_step, all_found, bad_step, counts_after, heard, item_of_entry, items_of_packets}
use Rattle.watch_items.specs.Captures.{last_item, of_packet, taken}
use Rattle.watch_items.specs.Entries.{Step, found_step}
use Rattle.watch_items.specs.Items.{event, events_in, with_event}
use Rattle.watch_items.specs.declared.entry.Entry.{Entry}
use Rattle.watch_items.specs.declared.entry.Entry.TheVariants.{Message, Note}
use Rattle.watch_items.specs.declared.item.Item.{Item}
use Rattle.watch_items.proofs.NumberLemmas.{AreFrom, from_lower, from_none, with_message}

-- the messages that follow have numbers above those that were counted
abbrev Follow : Counts → List Event → Type 0
Follow c events = AreFrom (c.messages + 1) events

noted : (kind : Kind) (c : Counts) (events : List Event) → Follow (counted kind c) events → Follow c events
noted kinds.Message c events h = from_lower (c.messages + 1) (c.messages + 1 + 1) events (omega arith) h
noted kinds.Left c events h = h
noted kinds.Repeated c events h = h
noted kinds.Other c events h = h
noted kinds.Fault c events h = h
noted kinds.Waiting c events h = h

one : (c : Counts) (entry : Entry) (events : List Event) → Follow (counts_after c entry) events
    → Follow c (with_event (item_of_entry (counts_after c entry) entry) events)
one c (Message origin destination octets) events h =
    with_message (c.messages + 1) (event (c.messages + 1) origin destination octets) events refl h
one c (Note kind line) events h = noted kind c events h

all : (found : List Carried) (s : Standing) (rest : List Item) → Follow (all_found found s).now.counts (events_in rest)
    → Follow s.counts (events_in ((all_found found s).items ++ rest))
unfolding all_found events_in
all [] s rest h = h
all (found ∷ more) s rest h =
    let step : Step = found_step s.counts.packets s.gathered found in
    one s.counts step.entry (events_in ((all_found more (after_step s.counts step)).items ++ rest))
    (all more (after_step s.counts step) rest h)

packet : (p : Packed) (s : Standing) (rest : List Item) → Follow (taken s p).now.counts (events_in rest)
    → Follow s.counts (events_in ((taken s p).items ++ rest))
unfolding of_packet events_in
packet (Packet link original octets) s rest h = all (or_other (found_in link original octets)) (with_packet s) rest h
packet (Bad why) s rest h =
    one (with_packet s).counts (bad_step (with_packet s) (bad_packet_word why)).entry (events_in rest) h

packets : (ps : List Packed) (s : Standing) (rest : List Item) → Follow (after_packets ps s).counts (events_in rest)
    → Follow s.counts (events_in (items_of_packets ps s ++ rest))
unfolding items_of_packets after_packets
packets [] s rest h = h
packets (p ∷ ps) s rest h =
    subst (λ xs. Follow s.counts (events_in xs))
    (sym (append_assoc (taken s p).items (items_of_packets ps (taken s p).now) rest))
    (packet p s (items_of_packets ps (taken s p).now ++ rest) (packets ps (taken s p).now rest h))

last : (s : Standing) (fault : Option FileFault) (number : ℕ) → AreFrom number (events_in (last_item s fault ∷ []))
unfolding events_in
last s fault number = from_none number

pub capture_differs : (octets : List ℕ) → NumbersDiffer (events_in (heard octets).items)
capture_differs octets =
    let ps : List Packed = (told true octets).packets in
    let fault : Option FileFault = (told true octets).fault in
    let s : Standing = after_packets ps beginning in
    (packets ps beginning (last_item s fault ∷ []) (last s fault (s.counts.messages + 1))).differ
