-- The lines of a capture file, as they are printed.
use Rattle.std.specs.Prelude.{ℕ, true, List, [], ◌∷◌, ◌++◌, Option}
use Rattle.plan_model.specs.Network.{Network}
use Rattle.capture_file.specs.Packets.{Captured, Told}
use Rattle.capture_file.specs.Told.{told}
use Rattle.capture_file.specs.declared.file_fault.FileFault.{FileFault}
use Rattle.capture_trace.specs.Traced.{Standing, beginning, ending_of, last_lines, taken}
use Rattle.capture_trace.specs.Words.{text_of_lines}
use Rattle.capture_trace.specs.declared.ending.Ending.{Ending}
use Rattle.capture_trace.specs.declared.ending.Ending.TheVariants.{Whole, Cut, Damaged}
use Rattle.sccp_work.specs.Work.{Work, print, read, read_on, answered}
use Rattle.sccp_work.specs.declared.status.Status.{Status}
use Rattle.sccp_work.specs.declared.status.Status.TheVariants.{Done, BadCapture}

-- the answer of a capture that ends so
abbrev pub status_of : Ending → Status
status_of Whole = Done
status_of Cut = Done
status_of Damaged = BadCapture

-- the answer of a capture with these octets
abbrev pub status_of_octets : List ℕ → Status
status_of_octets octets = status_of (ending_of (told true octets).fault)

-- ---- packets

-- the text of the lines of packets, from what was kept before them
unfoldable pub text_of_packets : Network → List Captured → Standing → List ℕ
text_of_packets plan [] s = []
text_of_packets plan (packet ∷ packets) s =
    text_of_lines (taken plan s packet).lines ++ text_of_packets plan packets (taken plan s packet).now

-- what is kept after them
unfoldable pub after_packets : Network → List Captured → Standing → Standing
after_packets plan [] s = s
after_packets plan (packet ∷ packets) s = after_packets plan packets (taken plan s packet).now

-- ---- the work

-- the last lines, and the answer
abbrev pub closing_of : Option FileFault → Standing → Status × List ℕ
closing_of fault s = (status_of (ending_of fault), text_of_lines (last_lines s.counts fault s.gathered.waiting))

-- the end of the file is found, or what cannot be read
abbrev pub end_work : Option FileFault → Standing → Work
end_work fault s = read_on (answered (closing_of fault s))

-- The file is read on, which may fail, and the lines of its next packet are printed.
unfoldable pub packets_work : Network → Option FileFault → List Captured → Standing → Work
packets_work plan fault [] s = end_work fault s
packets_work plan fault (packet ∷ packets) s =
    read_on (print (text_of_lines (taken plan s packet).lines) (packets_work plan fault packets (taken plan s packet).now))

abbrev pub told_work : Network → Standing → Told → Work
told_work plan s told = packets_work plan told.fault told.packets s

abbrev pub octets_work : Network → List ℕ → Work
octets_work plan octets = told_work plan beginning (told true octets)

abbrev pub file_work : Network → List ℕ → Work
file_work plan name = read name (octets_work plan)
