pub mod Rates
pub mod Statuses
