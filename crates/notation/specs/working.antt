-- Definitions that only describe how the reading is gone about. Nothing here has to be believed: theorems tie it to the definitions beside this folder.
pub mod Lexing
pub mod Ledger
pub mod Table
pub mod Machine
pub mod Descent
pub mod Answer
