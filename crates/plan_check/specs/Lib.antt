-- The definitions of this crate, one file a subject.
pub mod Ranking
pub mod Ranked
pub mod Checks
pub mod Verified
