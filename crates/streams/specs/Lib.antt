-- What reading leaves in the room that it is lent, and how much and what is put.
pub mod Growth
pub mod Reads
pub mod Values
