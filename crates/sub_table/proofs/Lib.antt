mod Places
pub mod Rooms
