-- Players of a trace, and in `working` how their moves are found.
pub mod Places
pub mod Answers
pub mod working
pub mod Promises
pub mod Cases
