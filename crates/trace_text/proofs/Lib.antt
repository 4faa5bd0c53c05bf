-- The lemmas of this crate, one file a subject.
pub mod LineLemmas
pub mod PieceLemmas
pub mod ReaderLemmas
pub mod FirstPlace
