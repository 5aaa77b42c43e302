-- The law of the reader's code words.
pub mod ReadValued
