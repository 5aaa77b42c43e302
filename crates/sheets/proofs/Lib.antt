-- Laws of sheets, by subject.
pub mod UnusedBits
pub mod MapBits
pub mod SheetLaws
pub mod SheetOpened
pub mod SheetRefusals
pub mod SheetWritten
pub mod SheetSplit
pub mod SheetAnswers
pub mod StarCounts
pub mod SheetCases
