pub mod Answers
pub mod Fetches
pub mod Produces
