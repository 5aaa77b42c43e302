-- Laws that the proofs of the functions cite, and what is promised of reports.
pub mod Parts
pub mod StepsLeft
pub mod ReportTells
pub mod TextReports
pub mod Reported
pub mod ReportShort
pub mod ReportCases
