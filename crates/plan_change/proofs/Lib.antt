-- The lemmas of this crate, one file a subject.
pub mod Growing
pub mod Onward
pub mod SafeMixtures
pub mod Between
pub mod NearKeys
pub mod Starts
pub mod Layers
pub mod Back
pub mod Cuts
pub mod Walked
pub mod Verdicts
pub mod Ranges
pub mod Holdings
