-- How a width is written, and the lines that are written for it.
pub mod Widths
pub mod Lines
pub mod working
pub mod Promises
