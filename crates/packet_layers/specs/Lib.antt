-- The definitions of this crate, one file a subject.
pub mod Values
pub mod Numbers
pub mod Layers
pub mod Places
