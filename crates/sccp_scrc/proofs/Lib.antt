-- The lemmas of this crate, one file a subject.
pub mod Redirected
pub mod Addresses
pub mod Arrivals
pub mod Behind
pub mod StepEnds
pub mod Meaning
pub mod Fits
pub mod Onward
pub mod Staying
