pub mod GroupSteps
pub mod GroupRuns
pub mod AnsweredCommits
