-- Definitions that only describe how the code goes about its work.
pub mod Kinds
pub mod Pieces
pub mod Names
