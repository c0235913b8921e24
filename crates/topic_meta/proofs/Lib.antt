mod Truths
pub mod Lookups
pub mod Drafts
pub mod Sound
pub mod Reading
pub mod Shown
pub mod Same
pub mod Found
pub mod Places
