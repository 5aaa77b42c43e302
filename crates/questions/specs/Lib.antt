-- What is replied to questions about states, and in `working` how it is found.
pub mod Answers
pub mod working
pub mod Promises
pub mod Cases
