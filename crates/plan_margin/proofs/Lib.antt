-- Lemmas of this crate, one file a subject.
pub mod Arriving
pub mod Blocking
pub mod Closing
pub mod Counted
pub mod Counting
pub mod Following
pub mod Margins
pub mod Measures
pub mod Passing
pub mod Relays
mod Rows
pub mod Sets
pub mod Starting
pub mod Subsystems
pub mod WithSccp
