-- The lemmas of this crate, one file a subject.
pub mod Going
pub mod Counters
pub mod Turns
pub mod Told
pub mod Sends
pub mod Places
pub mod Delivering
pub mod Rows
pub mod Passages
