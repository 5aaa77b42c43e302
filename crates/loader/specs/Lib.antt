-- What C is told.
pub mod Numbers
pub mod Promises
