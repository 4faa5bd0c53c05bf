-- The lemmas of this crate, one file a subject.
pub mod PrintingLemmas
mod PacketLemmas
mod LoopLemmas
