-- What is counted of a map, and the lines that tell it.
pub mod Counts
pub mod CountLines
pub mod Promises
pub mod working
