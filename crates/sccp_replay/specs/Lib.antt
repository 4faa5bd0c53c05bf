-- The definitions of this crate, one file a subject.
pub mod Account
pub mod BatchEnds
pub mod Fences
pub mod Gathering
pub mod Holding
pub mod Incoming
pub mod LaterPlans
pub mod Progress
pub mod Replay
pub mod ReplayEnds
pub mod Replayers
pub mod Replaying
pub mod Routers
pub mod Routings
pub mod Settling
pub mod Trace
pub mod Workers
