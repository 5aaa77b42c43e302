-- Definitions that only describe how a program goes about it. Nothing here has to be believed.
pub mod Underway
