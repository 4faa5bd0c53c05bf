-- Facts about the values that every layer names, for the proofs of this crate and of others.
pub mod AllOk
pub mod Among
pub mod Cases
pub mod Halves
pub mod Inserted
pub mod LaidOut
pub mod MarkPlaces
pub mod MarkPoints
pub mod NameLaidOut
pub mod NameTexts
pub mod Prefix
pub mod Selectors
