-- The definitions of this crate, one file a subject.
pub mod Chunks
pub mod UserMessages
pub mod Gathering
pub mod Runs
pub mod Waiting
pub mod Captures
