-- The definitions of this crate, one file a subject.
pub mod Outages
pub mod Margins
pub mod Searching
pub mod Ways
