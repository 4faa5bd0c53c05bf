-- The definitions of this crate, one file a subject.
pub mod Journeys
pub mod Riding
pub mod Headline
pub mod States
pub mod Batches
