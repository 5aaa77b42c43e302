-- Answers as numbers.
pub mod Packed
pub mod Outcomes
