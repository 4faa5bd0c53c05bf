-- What the types of the code mean.
use Rattle.std.specs.Prelude.{ℕ, ◌<◌, ◌≤◌, List, [], ◌∷◌, map}
use Rattle.capture_file.specs.Packets.{Captured, Packet, Bad, Told}
use Rattle.capture_file.specs.Units.{At, FileStart, Record, Block, Rest, Step, Takes, Needs, Fails, empty_section, with_interface}
use Rattle.capture_file.specs.declared.section.Section.{Section}
use Rattle.capture_file.specs.declared.expected.Expected.{Expected}
use Rattle.capture_file.specs.declared.expected.Expected.TheVariants.{Heading, NextRecord, NextBlock, BlockRest}
use Rattle.capture_file.specs.declared.step.Content.{Content}
use Rattle.capture_file.specs.declared.step.Content.TheVariants.{NoPacket, Whole, Missing}
use Rattle.capture_file.specs.declared.step.Change.{Change}
use Rattle.capture_file.specs.declared.step.Change.TheVariants.{Stays, NewSection, NewInterface}
use Rattle.capture_file.specs.declared.step.Reading.{Reading}
use Rattle.capture_file.specs.declared.step.Reading.TheVariants.{Read, Unfinished, Refused}
use Rattle.capture_file.specs.declared.held.Held.{Held}
use Rattle.capture_file.specs.declared.held.Held.TheVariants.{OfPacket, OfBad}
use Rattle.capture_file.specs.declared.held.PacketOctets.{PacketOctets}
use Rattle.capture_file.specs.declared.held.PacketOctets.TheVariants.{Lent, Joined}
use Rattle.capture_file.specs.declared.fed.Fed.{Fed}

-- what is expected, in this section; a pcap file has none
abbrev pub at_of : Expected → Section → At
at_of Heading s = FileStart
at_of (NextRecord order link) s = Record order link
at_of NextBlock s = Block s
at_of (BlockRest left size start) s = Rest s left size start

abbrev pub content_of : Content → List Captured
content_of NoPacket = []
content_of (Whole link original octets) = Packet link original octets.now ∷ []
content_of (Missing why) = Bad why ∷ []

-- a section after a unit
abbrev pub changed : Change → Section → Section
changed Stays s = s
changed (NewSection order) s = empty_section order
changed (NewInterface link snap) s = with_interface s link snap

-- what was read in a section
abbrev pub step_of : Reading → Section → Step
step_of (Read u) s = Takes (content_of u.content) u.used (at_of u.next (changed u.change s))
step_of (Unfinished asked) s = Needs
step_of (Refused fault) s = Fails fault

-- of that number of octets: a whole unit has one at least and no more than that, and what is needed is more and not too much
abbrev pub IsProgress : Reading → ℕ → Type 0
IsProgress (Read u) size = (0 < u.used) × (u.used ≤ size)
IsProgress (Unfinished asked) size = (size < asked) × (asked ≤ 262172)
IsProgress (Refused fault) size = Unit {0}

abbrev pub octets_of : PacketOctets → List ℕ
octets_of (Lent octets) = octets.now
octets_of (Joined octets) = octets.items

abbrev pub captured : Held → Captured
captured (OfPacket p) = Packet p.link p.original (octets_of p.octets)
captured (OfBad why) = Bad why

abbrev pub told_as : Fed → Told
told_as fed = record { packets = map captured fed.packets; fault = fed.fault }
