-- Facts about the parts of a message, for the proofs of this crate and of others.
pub mod Examples
pub mod Codes
pub mod Listed
pub mod Lists
pub mod Laws
pub mod Pieces
pub mod Joined
pub mod Cuts
pub mod Tests
