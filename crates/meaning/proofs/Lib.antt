-- Theorems about the definitions of specs/, by subject.
pub mod Lists
pub mod View
pub mod Number
pub mod Words
pub mod Fits
pub mod OneRow
pub mod Parametric
pub mod PutBits
pub mod OnNumbers
pub mod Accept
pub mod Readings
