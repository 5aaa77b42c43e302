-- Definitions that only describe how the code goes about its work.
pub mod Names
pub mod Cursors
pub mod Expressions
pub mod Items
pub mod Sequences
