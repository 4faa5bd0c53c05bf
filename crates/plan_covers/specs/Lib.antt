-- The definitions of this crate, one file a subject.
pub mod Keys
pub mod Needless
pub mod Firsts
pub mod Remaining
