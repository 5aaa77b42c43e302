pub mod Read
pub mod Answers
pub mod Promises
pub mod working
