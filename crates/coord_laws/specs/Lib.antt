pub mod GroupRuns
pub mod AnsweredCommits
