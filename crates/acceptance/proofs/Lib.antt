-- Laws of the test, by subject.
pub mod TestMeans
pub mod TestWhole
pub mod Alike
pub mod TestTexts
pub mod TestCases
pub mod Claims
pub mod Places
