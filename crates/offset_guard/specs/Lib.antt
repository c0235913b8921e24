pub mod Stored
pub mod Topics
pub mod Requests
pub mod Replies
pub mod Listing
