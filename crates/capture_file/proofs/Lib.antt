-- Worked captures, and what is read of a file that comes in pieces.
mod Worked
pub mod UnitLemmas
pub mod ToldLemmas
pub mod StepLemmas
pub mod PieceLemmas
pub mod ReaderLemmas
pub mod WordLemmas
pub mod SpelledLemmas
pub mod PcapLemmas
pub mod BlockLemmas
pub mod FramedLemmas
pub mod SectionLemmas
pub mod PartsLemmas
pub mod OpenedLemmas
pub mod LeftLemmas
pub mod PcapngLemmas
pub mod FrontLemmas
