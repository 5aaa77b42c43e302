-- Laws of traces that pass, by subject.
pub mod TracesPassed
pub mod Contents
pub mod PassedTold
