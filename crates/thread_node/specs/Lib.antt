-- what a server on threads is made of
pub mod Parts
-- of which shards a server on threads answers, and what it refuses of others
pub mod Refusing
-- what is kept in writing of what the hub did and refused
pub mod HubTapes
-- what is written down of a call: its answer, or why it was refused
pub mod Told
-- a drain of the hub and of each shard
pub mod Drains
-- what the calls of a shard and of the hub do that are held
pub mod Held
