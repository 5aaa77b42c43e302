-- Laws of reservations, by subject.
pub mod Reserved
pub mod ReserveTexts
