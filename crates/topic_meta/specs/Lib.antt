pub mod Faults
pub mod Images
pub mod Stored
pub mod Views
pub mod Drafts
