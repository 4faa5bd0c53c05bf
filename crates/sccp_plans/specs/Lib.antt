-- The definitions of this crate, one file a subject.
pub mod Change
pub mod Covers
pub mod Margin
pub mod MarginTallies
pub mod Order
pub mod Route
pub mod Starts
pub mod Tallies
pub mod Texts
pub mod TwoPlans
pub mod Unused
pub mod Verify
