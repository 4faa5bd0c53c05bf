-- The lemmas of this crate, by subject.
pub mod Values
pub mod Stored
pub mod Few
pub mod Answered
pub mod Nodes
pub mod Happens
pub mod Before
pub mod Asked
pub mod Readable
pub mod Legs
pub mod Staging
pub mod Follow
pub mod Lined
