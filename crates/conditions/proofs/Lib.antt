-- Laws of the conditions, by subject.
pub mod Loops
pub mod TraceLaws
pub mod Declining
