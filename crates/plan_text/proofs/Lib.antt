-- The lemmas of this crate, one file a subject.
pub mod Along
pub mod Documents
pub mod EachOk
pub mod Elements
pub mod FirstPlaces
pub mod Keys
pub mod Limits
pub mod Marked
pub mod Seen
