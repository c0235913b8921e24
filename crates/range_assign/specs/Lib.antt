pub mod Members
pub mod Shares
pub mod Turns
pub mod Marks
pub mod Laws
