pub mod OtherGroups
pub mod Salts
pub mod Rooms
