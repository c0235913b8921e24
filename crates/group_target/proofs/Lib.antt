pub mod OneOrder
pub mod Mirrored
pub mod RenamedTargets
