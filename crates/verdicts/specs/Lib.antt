-- What a call of the search leaves, and in `working` how it goes about it.
pub mod Answers
pub mod Left
pub mod working
pub mod Promises
pub mod Cases
