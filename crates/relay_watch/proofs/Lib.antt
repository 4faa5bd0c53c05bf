mod Worked
mod Data
mod DueLemmas
mod Reasoned
mod Left
mod Steps
mod CountsChanged
mod CountsTally
mod CountsTaken
mod CountsLines
mod LeastCut
mod LeastWorked
pub mod Told
pub mod Once
mod Waited
mod Places
mod Said
mod Watched
mod WhyLemmas
mod KeptLemmas
mod Repeated
mod WaitingBefore
mod NearestOf
mod AnsweredBefore
mod ReasonedRuns
pub mod Agree
