-- The definitions of this crate, one file a subject.
pub mod Met
pub mod Uses
pub mod Fitting
pub mod Meets
pub mod Surveys
pub mod Walks
pub mod Listed
