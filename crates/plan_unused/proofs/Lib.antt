-- The lemmas of this crate, one file a subject.
pub mod Sending
pub mod Fits
pub mod Meeting
pub mod Places
pub mod Growing
pub mod Noting
pub mod InOrder
pub mod Visiting
pub mod Walked
pub mod Settling
