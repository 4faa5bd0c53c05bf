-- The items of a capture file: its messages of SCCP between two points, and the line on each thing that is not one.
use Rattle.std.specs.Prelude.{ℕ, true, List, [], ◌∷◌, ◌++◌, Option}
use Rattle.capture_file.specs.Packets.{Captured as Packed, Packet, Bad, Told}
use Rattle.capture_file.specs.Told.{told}
use Rattle.capture_file.specs.Standings as reading
use Rattle.capture_file.specs.declared.file_fault.FileFault.{FileFault}
use Rattle.capture_trace.specs.declared.counts.Counts.{Counts}
use Rattle.capture_trace.specs.declared.kind.Kind.TheVariants as kinds
use Rattle.capture_trace.specs.Items.{counted, fault}
use Rattle.capture_trace.specs.Traced.{Standing, beginning, ending_of, last_lines, or_other, standing, with_packet}
use Rattle.capture_trace.specs.declared.ending.Ending.{Ending}
use Rattle.capture_trace.specs.Words.{bad_packet_word, on_packet, text_of_lines}
use Rattle.packet_layers.specs.Layers.{found_in}
use Rattle.packet_layers.specs.Values.{Carried}
use Rattle.watch_items.specs.Items.{event}
use Rattle.watch_items.specs.Entries.{Step, found_step, note, stays}
use Rattle.watch_items.specs.declared.entry.Entry.{Entry}
use Rattle.watch_items.specs.declared.entry.Entry.TheVariants.{Message, Note}
use Rattle.watch_items.specs.declared.item.Item.{Item}
use Rattle.watch_items.specs.declared.item.Item.TheVariants as made

-- ---- one thing

-- the counts after it
abbrev pub counts_after : Counts → Entry → Counts
counts_after c (Message origin destination octets) = counted kinds.Message c
counts_after c (Note kind line) = counted kind c

-- its item, by the counts after it: the messages are counted from 1
abbrev pub item_of_entry : Counts → Entry → Item
item_of_entry c (Message origin destination octets) = made.Captured c.packets (event c.messages origin destination octets)
item_of_entry c (Note kind line) = made.Note line

-- ---- one packet

-- what is kept afterwards, and the items
pub record Listed : Type 0 where
  pub now : Standing
  pub items : List Item

abbrev pub after_step : Counts → Step → Standing
after_step counts step = standing (counts_after counts step.entry) step.gathered

-- what follows after a step, with the item of the step
abbrev pub and_later : (Standing → Listed) → Counts → Step → Listed
and_later next counts step = record {
  now = (next (after_step counts step)).now;
  items = item_of_entry (counts_after counts step.entry) step.entry ∷ (next (after_step counts step)).items;
}

-- what a packet carries, in its order
unfoldable pub all_found : List Carried → Standing → Listed
all_found [] s = record { now = s; items = [] }
all_found (found ∷ more) s = and_later (all_found more) s.counts (found_step s.counts.packets s.gathered found)

-- a block that should have a packet
abbrev pub bad_step : Standing → List ℕ → Step
bad_step s word = stays s.gathered (note (fault (on_packet s.counts.packets) word))

-- a packet that is counted already
unfoldable pub of_packet : Standing → Packed → Listed
of_packet s (Packet link original octets) = all_found (or_other (found_in link original octets)) s
of_packet s (Bad why) = and_later (λ now. record { now = now; items = [] }) s.counts (bad_step s (bad_packet_word why))

-- the next packet of the capture
abbrev pub taken : Standing → Packed → Listed
taken s packet = of_packet (with_packet s) packet

-- the items of packets, from what was kept before them
unfoldable pub items_of_packets : List Packed → Standing → List Item
items_of_packets [] s = []
items_of_packets (packet ∷ packets) s = (taken s packet).items ++ items_of_packets packets (taken s packet).now

-- what is kept after them
unfoldable pub after_packets : List Packed → Standing → Standing
after_packets [] s = s
after_packets (packet ∷ packets) s = after_packets packets (taken s packet).now

-- ---- a whole capture

-- The last item: the lines of what ends the file early, of the chunks that still wait, and of the counts.
abbrev pub last_item : Standing → Option FileFault → Item
last_item s fault = made.Note (text_of_lines (last_lines s.counts fault s.gathered.waiting))

-- what a file gives, and how it ends
pub record Heard : Type 0 where
  pub items : List Item
  pub ending : Ending

-- the items of packets, and then the last one
abbrev pub heard_from : Standing → Told → Heard
heard_from s told = record {
  items = items_of_packets told.packets s ++ last_item (after_packets told.packets s) told.fault ∷ [];
  ending = ending_of told.fault;
}

-- what a capture file with these octets gives
abbrev pub heard : List ℕ → Heard
heard octets = heard_from beginning (told true octets)

-- ---- a file that arrives in pieces

-- these items, and then what a file gives after them
abbrev pub after_items : List Item → Heard → Heard
after_items items h = record { items = items ++ h.items; ending = h.ending }

-- what is kept of a file that was read in part: of its octets, and of its packets
pub record State : Type 0 where
  pub reader : reading.Standing
  pub now : Standing

-- what the file gives from there on, if it goes on and ends so
unfoldable pub ahead : State → List ℕ → Heard
ahead r rest = heard_from r.now (reading.ahead r.reader true rest)
