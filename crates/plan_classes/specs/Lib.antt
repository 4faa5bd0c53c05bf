-- The definitions of this crate, one file a subject.
pub mod Titles
pub mod Classes
pub mod Leading
pub mod Order
