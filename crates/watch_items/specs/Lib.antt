-- The definitions of this crate, one file a subject.
pub mod Items
pub mod Front
pub mod Entries
pub mod Captures
pub mod Files
pub mod Steps
