-- When a sheet is a trace that passes, and in `working` how a program takes it from the sheet's bytes.
pub mod Passed
pub mod working
