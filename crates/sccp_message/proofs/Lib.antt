-- Facts about messages, for the proofs of this crate and of others.
pub mod Carrying
pub mod Examples
pub mod Laws
pub mod Made
pub mod Octets
pub mod Surveyed
pub mod Writing
