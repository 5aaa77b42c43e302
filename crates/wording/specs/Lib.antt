-- What is written of an outcome.
pub mod Lines
