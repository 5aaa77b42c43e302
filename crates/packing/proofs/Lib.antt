-- Laws of packed numbers.
pub mod Packed
pub mod OutcomesTold
