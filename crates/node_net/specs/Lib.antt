-- what becomes of bytes that are sent to a connection
pub mod Sending
-- which calls a client's connection makes
pub mod Holds
-- what a route reads of the bytes that come
pub mod Reading
-- which calls a route makes of the hub
pub mod Routes
-- which shards a turn of the loop works
pub mod Turning
-- what becomes of what stands in a table
pub mod Keyed
-- which of all bytes that were taken stand in a part
pub mod Parts
-- what is taken of a shard for its clients, and sent to them
pub mod Taking
-- what another server is told
pub mod Telling
