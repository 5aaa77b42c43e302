-- Laws of the counts of a map, by subject.
pub mod Below
pub mod Ones
pub mod Sums
pub mod Settings
pub mod Reachable
pub mod SafeCounted
pub mod Tables
pub mod TableLines
pub mod MapBytes
pub mod WholeLines
pub mod LinesShort
