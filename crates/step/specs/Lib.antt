-- What the bytes of the input ask for, and the lines that are written.
pub mod Keys
pub mod Lines
