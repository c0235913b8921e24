pub mod Expressions
pub mod Faults
