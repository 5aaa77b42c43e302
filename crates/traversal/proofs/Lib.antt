-- Laws of the whole way through the states.
pub mod WholeRuns
