-- Laws of questions, by subject.
pub mod MapsAsked
pub mod ReachedTexts
pub mod ReachedTells
pub mod Runs
pub mod ReachedCases
