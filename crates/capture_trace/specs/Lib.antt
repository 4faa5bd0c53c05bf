-- The definitions of this crate, one file a subject.
pub mod Words
pub mod Items
pub mod Traced
pub mod Forms
