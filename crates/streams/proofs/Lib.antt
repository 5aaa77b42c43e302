-- Laws that the proofs of the functions cite.
pub mod Reading
pub mod Growing
pub mod Putting
