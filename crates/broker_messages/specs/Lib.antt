pub mod Api
pub mod Faults
pub mod Head
pub mod Heartbeat
pub mod Front
