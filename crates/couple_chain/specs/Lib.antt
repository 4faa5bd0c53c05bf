-- The definitions of chains: the world of relays and links, lines over it, and what a relay notes.
pub mod World
pub mod Line
pub mod Logged
pub mod Relays
pub mod Fit
