pub mod ReplicaWorlds
pub mod Restamped
pub mod Unstamped
pub mod Laws
pub mod Logs
pub mod Examples
