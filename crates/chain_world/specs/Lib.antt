-- The definitions of a running world: what it keeps, and what its calls answer.
pub mod Kept
pub mod Links
pub mod Answering
pub mod Offering
pub mod Running
pub mod Staged
