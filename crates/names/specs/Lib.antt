-- Names as they stand in a text, and in `working` where the reader's array has them.
pub mod Names
pub mod working
