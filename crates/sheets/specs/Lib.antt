-- Which bytes say which sheets, and which first refusal the others have. What has to be believed stands here; `working` holds tools.
pub mod Sheets
pub mod SheetTexts
pub mod Promises
pub mod working
