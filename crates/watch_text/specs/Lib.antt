-- The definitions of this crate, one file a subject.
pub mod Ways
pub mod Lines
pub mod Summaries
pub mod Told
