-- The definitions of this crate, one file a subject.
pub mod Arrivals
pub mod Reasons
pub mod Repeats
pub mod Verdicts
pub mod Judging
pub mod Runs
pub mod Totals
pub mod Least
pub mod Kept
pub mod Keepings
pub mod Whys
pub mod WhyRuns
pub mod Watching
pub mod Settling
pub mod Differing
