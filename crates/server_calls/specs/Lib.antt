-- the calls that routes make of the hub
pub mod Routed
-- publications that a connection lends, published by a hub
pub mod Runs
-- which shards belong to which of a server's loops
pub mod Loops
