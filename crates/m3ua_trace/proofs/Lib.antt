-- The lemmas of this crate, one file a subject.
pub mod Fields
pub mod Numbers
pub mod Payloads
pub mod Plain
pub mod Messages
pub mod Traces
pub mod Loop
