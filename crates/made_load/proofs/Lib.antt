-- The lemmas of this crate, one file a subject.
pub mod Counting
mod Growing
mod Faultless
mod LaidOut
pub mod Narrow
mod Parting
mod Passing
mod Planned
pub mod Safe
mod Sending
mod Worked
