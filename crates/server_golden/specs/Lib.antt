-- a race of two shards, with all seats
pub mod Races
-- a server of one shard
pub mod Turns
