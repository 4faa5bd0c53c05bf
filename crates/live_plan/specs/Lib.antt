-- The definitions of the live plan: its events, its plans, its workers, batches and blocks.
pub mod Machine
pub mod Plans
pub mod Entries
pub mod Listed
pub mod Routed
pub mod Published
pub mod Seats
pub mod Tellers
pub mod Batches
pub mod Blocks
pub mod Publishing
pub mod ByPlace
