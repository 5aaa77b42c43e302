-- What lines are, and what is put into a buffer.
pub mod Lines
pub mod Puts
pub mod Writers
