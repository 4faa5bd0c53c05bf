-- The lemmas of this crate, one file a subject.
mod Accounting
mod BatchRuns
mod BatchSteps
mod CrewSteps
mod Examples
mod Fed
mod Fences
mod Gathering
mod Holding
mod LaterSteps
mod Parts
pub mod ReplayAnswers
pub mod ReplayCauses
pub mod ReplayFiles
pub mod ReplayTold
mod ReplayerLemmas
mod SettleSteps
mod Settling
mod Skipping
mod SoFar
mod Streaming
mod TakeSteps
mod TellSteps
mod Telling
mod TraceOctets
mod TraceSteps
