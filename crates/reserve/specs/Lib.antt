-- The lines of a reservation.
pub mod Lines
