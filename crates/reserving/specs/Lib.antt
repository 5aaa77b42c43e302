-- What is reserved for a search, and in `working` how it is reckoned.
pub mod Answers
pub mod working
pub mod Promises
