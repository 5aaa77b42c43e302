-- Laws of a search in portions, by subject.
pub mod FlatTexts
pub mod Finished
pub mod AnyCalls
pub mod MetRefusals
pub mod Unaltered
pub mod PausesTold
pub mod PortionsTold
pub mod PauseCases
