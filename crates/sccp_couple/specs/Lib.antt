-- The definitions of coupling: sections, events, steps, runs and laws.
pub mod Sections
pub mod Events
pub mod Coupling
pub mod Runs
pub mod Invariant
pub mod Laws
pub mod Sending
pub mod Marked
pub mod Ways
pub mod Exchanges
