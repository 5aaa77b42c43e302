-- Laws of the numbers that stand for the search's answers.
pub mod Told
pub mod PositionsTold
pub mod NeedsTold
pub mod PlayersTold
pub mod BurstsTold
