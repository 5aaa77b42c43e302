-- Laws of the stores.
mod Stored
mod MapBytes
