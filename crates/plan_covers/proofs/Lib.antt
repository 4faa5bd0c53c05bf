-- The lemmas of this crate, one file a subject.
pub mod Ascending
pub mod Titles
pub mod Adding
pub mod Climbing
pub mod KeyOrder
pub mod Groups
pub mod Fronts
pub mod Listing
pub mod Safety
