-- What the contracts of the search cite besides what it answers and leaves.
pub mod Answers
pub mod working
