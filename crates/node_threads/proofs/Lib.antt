pub mod Shards
pub mod Hubs
pub mod Lanes
