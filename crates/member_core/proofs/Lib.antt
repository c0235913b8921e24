pub mod Outcomes
pub mod Beside
pub mod Reports
pub mod ShortRequests
pub mod Sizes
pub mod Answered
