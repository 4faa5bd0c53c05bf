-- The lemmas of this crate, one file a subject.
pub mod JudgingLemmas
pub mod PrintingLemmas
pub mod DiffersLemmas
pub mod UnansweredLemmas
pub mod TrueLemmas
mod AppendLemmas
mod PartlyLemmas
mod OnFileLemmas
