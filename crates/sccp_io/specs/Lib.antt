-- What files and sinks promise, and what those in memory show.
pub mod Calls
pub mod Faults
pub mod Files
pub mod Memory
pub mod Sinks
