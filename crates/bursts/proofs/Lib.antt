-- Laws that the proofs of the functions cite, and what is promised of bursts that are written.
pub mod WidthDigits
pub mod LinesLeft
pub mod NamesListed
pub mod LinesPut
pub mod BurstsTold
