-- the name of no server
pub mod Names
-- what a shard did, step by step, the newest step first
pub mod Steps
-- the same with what it refused between these steps
pub mod Logs
-- a shard at work: what it keeps of its lane and of the race
pub mod AtWork
-- what a turn of a shard does
pub mod Turns
-- the jobs of a hub on their way to the lanes
pub mod Outlets
-- a hub at work: what it keeps of its lanes and of the race
pub mod AtHub
-- what a hub does with its sessions is its part of a server's step
pub mod Parts
-- what is kept in writing of what was done under a lock
pub mod Tapes
-- publications that a hub issues one after the other
pub mod HubRuns
