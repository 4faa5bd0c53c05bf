-- Facts about addresses, for the proofs of this crate and of others.
pub mod Steps
pub mod Titles
pub mod Laws
pub mod Writing
pub mod Examples
pub mod Kept
