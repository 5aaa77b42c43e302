-- What the test answers. What has to be believed stands here; `working` holds tools.
pub mod Promises
pub mod Cases
pub mod working
