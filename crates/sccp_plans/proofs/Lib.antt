-- The lemmas of this crate, one file a subject.
pub mod ChangeLemmas
pub mod CoversLemmas
pub mod MarginLemmas
pub mod OrderLemmas
pub mod RouteLemmas
mod TwoPlansLemmas
pub mod UnusedLemmas
pub mod VerifyLemmas
pub mod WorkCauses
