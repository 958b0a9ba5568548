pub mod Case8
pub mod CaseWords
pub mod CaseTag
