-- Laws of windows, by subject.
pub mod Walks
pub mod FirstValues
pub mod Occurrences
pub mod EachCounted
pub mod Tallies
pub mod AskLaws
pub mod Filled
pub mod SurveyLaws
pub mod BurstLaws
pub mod StepRecords
pub mod SurveysTold
pub mod SurveyNumbers
pub mod Surveyed
pub mod Replies
pub mod CountsTold
pub mod CountsRoom
pub mod SurveyCases
