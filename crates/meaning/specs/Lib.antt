-- What models mean and when a sheet passes. What has to be believed stands here; `working` holds tools.
pub mod Bits
pub mod Meaning
pub mod OneRow
pub mod Evidence
pub mod Rows
pub mod Readings
pub mod working
