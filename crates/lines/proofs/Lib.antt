-- Laws that the proofs of the functions cite.
pub mod Stores
pub mod Writers
pub mod Digits
pub mod Parts
pub mod LineLengths
