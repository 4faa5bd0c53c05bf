-- The lemmas of this crate, one file a subject.
pub mod Meeting
pub mod Pairing
