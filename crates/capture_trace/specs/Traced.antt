-- The lines of a capture.
use Rattle.std.specs.Prelude.{ℕ, ◌+◌, List, [], ◌∷◌, ◌++◌, length, map, true, codes, Option, Some, None}
use Rattle.plan_model.specs.Network.{Network}
use Rattle.capture_file.specs.Packets.{Captured, Packet, Bad, Told}
use Rattle.capture_file.specs.Told.{told}
use Rattle.capture_file.specs.declared.file_fault.FileFault.{FileFault}
use Rattle.capture_file.specs.declared.file_fault.FileFault.TheVariants.{Cut, Damaged}
use Rattle.packet_layers.specs.Layers.{found_in}
use Rattle.packet_layers.specs.Values.{Carried, Other}
use Rattle.user_messages.specs.declared.place.Place.{Place}
use Rattle.user_messages.specs.Gathering.{Gathered, Received, nothing}
use Rattle.capture_trace.specs.declared.counts.Counts.{Counts}
use Rattle.capture_trace.specs.declared.ending.Ending.{Ending}
use Rattle.capture_trace.specs.declared.ending.Ending.TheVariants as endings
use Rattle.capture_trace.specs.Words.{on_packet, on_chunk, skipped, bad_packet_word, file_fault_line, end_line}
use Rattle.capture_trace.specs.Items.{Step, counted, fault, found_step}

-- what was counted, and what is kept of DATA chunks
pub record Standing : Type 0 where
  pub counts : Counts
  pub gathered : Gathered

-- what is kept afterwards, and the lines
pub record Reported : Type 0 where
  pub now : Standing
  pub lines : List (List ℕ)

abbrev pub standing : Counts → Gathered → Standing
standing counts gathered = record { counts = counts; gathered = gathered }

abbrev pub no_counts : Counts
no_counts = record { packets = 0; messages = 0; left = 0; repeated = 0; others = 0; faults = 0 }

-- before the first packet
abbrev pub beginning : Standing
beginning = record { counts = no_counts; gathered = nothing }

-- a line, if there is one, before other lines
abbrev pub with_line : Option (List ℕ) → List (List ℕ) → List (List ℕ)
with_line None lines = lines
with_line (Some line) lines = line ∷ lines

-- ---- one packet

abbrev pub after_step : Counts → Step → Standing
after_step counts step = record { counts = counted step.item.kind counts; gathered = step.gathered }

-- what is reported after a step, with the line of the step
abbrev pub and_later : (Standing → Reported) → Counts → Step → Reported
and_later next counts step = record {
  now = (next (after_step counts step)).now;
  lines = with_line step.item.line (next (after_step counts step)).lines;
}

-- what a packet carries, in its order
unfoldable pub all_found : Network → List Carried → Standing → Reported
all_found plan [] s = record { now = s; lines = [] }
all_found plan (found ∷ more) s = and_later (all_found plan more) s.counts (found_step plan s.counts.packets s.gathered found)

-- a packet with nothing in it is one of another protocol
abbrev pub or_other : List Carried → List Carried
or_other [] = Other ∷ []
or_other (found ∷ more) = found ∷ more

-- packets are counted from 1
abbrev pub one_more : Counts → Counts
one_more c = record c { packets = c.packets + 1 }

abbrev pub with_packet : Standing → Standing
with_packet s = standing (one_more s.counts) s.gathered

-- what is reported of a packet that is counted already
unfoldable pub of_packet : Network → Standing → Captured → Reported
of_packet plan s (Packet link original octets) = all_found plan (or_other (found_in link original octets)) s
of_packet plan s (Bad why) =
    and_later (λ s. record { now = s; lines = [] }) s.counts
    (record { gathered = s.gathered; item = fault (on_packet s.counts.packets) (bad_packet_word why) })

-- the next packet of the capture
abbrev pub taken : Network → Standing → Captured → Reported
taken plan s packet = of_packet plan (with_packet s) packet

-- ---- the end

abbrev pub ending_of : Option FileFault → Ending
ending_of None = endings.Whole
ending_of (Some (Cut place)) = endings.Cut
ending_of (Some (Damaged place why)) = endings.Damaged

abbrev pub faults_of : Option FileFault → ℕ
faults_of None = 0
faults_of (Some fault) = 1

abbrev pub alone_line : Place → List ℕ
alone_line place = skipped (on_chunk place.packet place.chunk) (codes "alone")

-- the counts at the end; each chunk that waits is a fault
abbrev pub counts_at_end : Counts → Option FileFault → ℕ → Counts
counts_at_end c fault waiting = record c { faults = c.faults + faults_of fault + waiting }

abbrev pub fault_lines : Option FileFault → List (List ℕ)
fault_lines None = []
fault_lines (Some fault) = file_fault_line fault ∷ []

abbrev pub alone_lines : List Received → List (List ℕ)
alone_lines waiting = map (λ r. alone_line r.place) waiting

-- the last lines: what ends the file early, the chunks that still wait, and the counts
unfoldable pub last_lines : Counts → Option FileFault → List Received → List (List ℕ)
last_lines c fault waiting = fault_lines fault ++ (alone_lines waiting ++ end_line (counts_at_end c fault (length waiting)) ∷ [])

-- ---- a whole capture

-- the lines of packets, and then those of the end
unfoldable pub lines_after : Network → List Captured → Option FileFault → Standing → List (List ℕ)
lines_after plan [] fault s = last_lines s.counts fault s.gathered.waiting
lines_after plan (packet ∷ packets) fault s = (taken plan s packet).lines ++ lines_after plan packets fault (taken plan s packet).now

abbrev pub lines_of : Network → Told → List (List ℕ)
lines_of plan told = lines_after plan told.packets told.fault beginning

-- the lines of a capture file with these octets
abbrev pub lines_of_capture : Network → List ℕ → List (List ℕ)
lines_of_capture plan b = lines_of plan (told true b)
