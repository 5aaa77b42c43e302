-- What is promised of a model's code, and in `working` how it is run.
pub mod working
pub mod Promises
pub mod Passes
