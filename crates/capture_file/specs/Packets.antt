-- What is reported of a capture file: its packets in their order, and what ends them.
use Rattle.std.specs.Prelude.{ℕ, List, [], ◌++◌, Option}
use Rattle.capture_file.specs.declared.file_fault.FileFault.{FileFault}
use Rattle.capture_file.specs.declared.held.BadPacket.{BadPacket}

-- a packet: its link type, the length that it had before it was captured, and its captured octets; or why a block has none
pub data Captured : Type 0 where
  Packet : ℕ → ℕ → List ℕ → Captured
  Bad : BadPacket → Captured

-- the packets, and the fault that ends them if there is one
pub record Told : Type 0 where
  pub packets : List Captured
  pub fault : Option FileFault

-- no packet, and a fault or none
abbrev pub only : Option FileFault → Told
only fault = record { packets = []; fault = fault }

-- these packets, and then what is reported after them
abbrev pub with_front : List Captured → Told → Told
with_front packets told = record { packets = packets ++ told.packets; fault = told.fault }
