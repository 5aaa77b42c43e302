-- Laws of what the code of the search leaves, by subject.
pub mod SheetsFound
pub mod SearchesLeft
pub mod SearchTexts
pub mod PausesHeld
