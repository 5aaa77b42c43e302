pub mod KindNumbers
pub mod Runs
pub mod Spelling
pub mod Lexing
pub mod Lookup
