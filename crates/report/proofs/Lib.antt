-- Laws of a search that tells how far it is.
pub mod Portions
