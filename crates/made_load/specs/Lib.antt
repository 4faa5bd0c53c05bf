-- The definitions of this crate, one file a subject.
pub mod Draws
pub mod Relays
pub mod Messages
pub mod Fates
pub mod Loads
