-- Laws of players, by subject.
pub mod MoveLaws
pub mod Lent
pub mod ByValue
pub mod StatesAt
pub mod Inverted
pub mod Restored
pub mod MovesTold
pub mod Walks
pub mod PlayerCases
