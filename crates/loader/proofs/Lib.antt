-- Laws of the numbers that C is given.
pub mod Told
