-- The definitions of this crate, one file a subject.
pub mod Numbers
pub mod Packets
pub mod Units
pub mod Steps
pub mod Told
pub mod Spelled
pub mod Sections
pub mod Views
pub mod Standings
