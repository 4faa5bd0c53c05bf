-- The definitions of this crate, one file a subject.
pub mod Meaning
pub mod Reports
pub mod Steps
