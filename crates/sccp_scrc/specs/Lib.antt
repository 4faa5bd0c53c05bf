-- The definitions of this crate, one file a subject.
pub mod Unitdata
pub mod Rewriting
pub mod Next
pub mod Returning
pub mod Arriving
pub mod Unchanged
pub mod Outcomes
pub mod Lengths
pub mod Passing
