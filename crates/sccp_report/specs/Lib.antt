-- The printed texts that this crate promises, by subject.
pub mod Values
pub mod Fields
pub mod Faults
pub mod MessageText
pub mod CutsText
pub mod Hops
pub mod Limits
pub mod PlanFaults
pub mod Verdicts
pub mod Covers
pub mod Surveys
pub mod Margins
pub mod Changes
pub mod Told
pub mod Roles
pub mod Served
pub mod Events
