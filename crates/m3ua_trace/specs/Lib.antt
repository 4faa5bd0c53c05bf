-- The definitions of this crate, one file a subject.
pub mod Imported
pub mod Traces
