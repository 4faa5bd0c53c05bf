-- What a packet carries, with the octets as lists.
use Rattle.std.specs.Prelude.{ℕ, Bool, List}
use Rattle.packet_layers.specs.declared.flow.Flow.{Flow}
use Rattle.packet_layers.specs.declared.fault.Fault.{Fault}
use Rattle.packet_layers.specs.declared.chunk_fault.ChunkFault.{ChunkFault}
use Rattle.packet_layers.specs.declared.data.Data.{Data}
use Rattle.packet_layers.specs.declared.transfer.Transfer.{Transfer}
use Rattle.packet_layers.specs.declared.found.Found.{Found}
use Rattle.packet_layers.specs.declared.found.Found.TheVariants as found

-- a DATA chunk (RFC 9260, section 3.3.1)
pub record DataChunk : Type 0 where
  pub flow : Flow
  pub tsn : ℕ
  pub stream : ℕ
  pub sequence : ℕ
  pub protocol : ℕ
  pub unordered : Bool
  pub begins : Bool
  pub ends : Bool
  pub payload : List ℕ

-- a message of MTP3 with its routing label (Q.704, sections 2.2 and 14.2)
pub record Transferred : Type 0 where
  pub origin : ℕ
  pub destination : ℕ
  pub service : ℕ
  pub payload : List ℕ

-- what a packet carries; chunks are counted in their packet, from 1
pub data Carried : Type 0 where
  Chunk : ℕ → DataChunk → Carried
  BadChunk : ℕ → ChunkFault → Carried
  Signal : Transferred → Carried
  Bare : List ℕ → Carried
  Unread : Fault → Carried
  Other : Carried

-- the same as the code gives it
abbrev pub data_as : Data → DataChunk
data_as d = record {
  flow = d.flow;
  tsn = d.tsn;
  stream = d.stream;
  sequence = d.sequence;
  protocol = d.protocol;
  unordered = d.unordered;
  begins = d.begins;
  ends = d.ends;
  payload = d.payload.now;
}

abbrev pub transfer_as : Transfer → Transferred
transfer_as t = record { origin = t.origin; destination = t.destination; service = t.service; payload = t.payload.now }

abbrev pub found_as : Found → Carried
found_as (found.Chunk i d) = Chunk i (data_as d)
found_as (found.BadChunk i fault) = BadChunk i fault
found_as (found.Transfer t) = Signal (transfer_as t)
found_as (found.Sccp octets) = Bare octets.now
found_as (found.Unread fault) = Unread fault
found_as found.Other = Other
