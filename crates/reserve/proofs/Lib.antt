-- Laws of the lines of a reservation.
pub mod LinesTold
