-- Commands counted in stretches of a trace, and in `working` how a program counts them in one pass over a list.
pub mod Bursts
pub mod Questions
pub mod working
pub mod Promises
pub mod Cases
