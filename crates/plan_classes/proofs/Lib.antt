-- The lemmas of this crate, one file a subject.
pub mod Parting
pub mod Images
pub mod Deciding
pub mod Openings
pub mod Taking
pub mod Starting
pub mod Ordered
pub mod Members
pub mod Alone
