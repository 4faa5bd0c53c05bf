-- The definitions of this crate, one file a subject.
pub mod Pairs
pub mod Mixed
pub mod Holdings
