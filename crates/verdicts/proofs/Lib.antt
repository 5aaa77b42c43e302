-- Laws of what the search answers and leaves, and of its sheets, by subject.
pub mod SearchTells
pub mod SheetBytes
pub mod SheetsPass
pub mod Places
pub mod WholeClaim
pub mod SearchCases
