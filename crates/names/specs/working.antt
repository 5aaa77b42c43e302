-- Definitions that only describe how a program goes about it. Nothing here has to be believed: theorems tie it to the definitions beside this folder.
pub mod Arrays
