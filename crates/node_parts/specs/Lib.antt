-- a shard, and the jobs that wait for it: how its calls go
pub mod Lines
-- which line a number is for
pub mod Places
-- a job for each shard: what is asked before it is handed out, and what holds after
pub mod Jobs
-- the hub's part of a server: its hub and its sessions, which are stepped together
pub mod Sides
