pub mod Checksum
pub mod Format
pub mod Sequence
pub mod Log
pub mod Append
pub mod Codes
