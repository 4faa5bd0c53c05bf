-- The lemmas of this crate, one file a subject.
pub mod ReadingLemmas
mod NumberLemmas
mod TurnLemmas
mod PacketLemmas
mod CaptureNumbers
pub mod FileNumbers
pub mod FrontLemmas
