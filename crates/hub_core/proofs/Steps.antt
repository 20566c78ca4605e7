-- Each step of a hub is one of the law's, and keeps the hub sound.
pub mod Behind
pub mod Rooms
pub mod Sound
pub mod Kept
pub mod Issued
pub mod Publishes
pub mod Receives
pub mod Collected
pub mod Drained
pub mod Changes
pub mod Announces
