-- What there is to find of a model, and in `working` how it is found.
pub mod Order
pub mod Findings
pub mod Members
pub mod Trials
pub mod Pause
pub mod working
pub mod Promises
