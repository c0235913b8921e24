pub mod Machines
pub mod Held
pub mod Slots
pub mod Reads
