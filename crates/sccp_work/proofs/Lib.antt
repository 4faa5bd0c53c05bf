-- The lemmas of this crate, one file a subject.
pub mod AcceptedPlanLemmas
pub mod AcceptingLemmas
pub mod Finishing
pub mod LimitLemmas
pub mod PieceLemmas
pub mod PlanLemmas
pub mod ReadingLemmas
pub mod RefineLemmas
mod RoseLemmas
pub mod Through
pub mod VerdictLemmas
pub mod WorkLemmas
mod WritingLemmas
