-- What the report of a text is.
pub mod Reports
pub mod Promises
pub mod Cases
pub mod working
