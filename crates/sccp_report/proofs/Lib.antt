-- The proofs of the printed texts, by subject.
pub mod ByKind
pub mod DigitTexts
pub mod HopLines
pub mod InPlan
pub mod InVerdict
pub mod InSurvey
pub mod InMixture
pub mod InMargin
pub mod Parted
pub mod MarkTexts
pub mod SpotTexts
pub mod HopsTold
pub mod MixedTold
pub mod Named
