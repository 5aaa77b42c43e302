-- Definitions that only describe how a program goes about it. Nothing here has to be believed: theorems tie it to the definitions beside this folder.
pub mod Transitions
pub mod Exploring
pub mod Trials
pub mod Runs
pub mod Results
pub mod Tables
pub mod Pauses
pub mod Written
pub mod Found
pub mod CodeTransitions
