-- Worked packets, and what is found in the octets of a packet.
mod Worked
pub mod Octets
pub mod InPacket
pub mod InLinks
pub mod Chunks
pub mod Turns
