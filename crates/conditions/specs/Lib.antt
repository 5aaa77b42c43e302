-- What the outcomes are called, and in `working` how they are judged.
pub mod Outcomes
pub mod working
