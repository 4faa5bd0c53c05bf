-- The definitions of this crate, one file a subject.
pub mod Conditions
pub mod Turns
pub mod Sends
pub mod Outcomes
pub mod Ways
pub mod Alike
pub mod Handling
pub mod Explained
pub mod Settled
pub mod Markings
pub mod Candidates
pub mod WhyNot
