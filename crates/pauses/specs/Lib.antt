-- What the calls of a search in portions leave, and in `working` how they go about it.
pub mod Answers
pub mod Held
pub mod working
pub mod Promises
pub mod Cases
