-- The lemmas of this crate, one file a subject.
pub mod Causes
pub mod Covering
pub mod Fullness
pub mod Greatest
pub mod Hashed
pub mod Listed
pub mod Orders
pub mod Soundness
pub mod Targets
pub mod Verdict
