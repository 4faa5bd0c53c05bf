-- The lemmas of this crate, one file a subject.
pub mod BelowLimit
pub mod Cuts
pub mod FromStarts
pub mod Keeping
pub mod Ranking
pub mod SameSteps
pub mod Tracing
pub mod Unions
pub mod ByCover
