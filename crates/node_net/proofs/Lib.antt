-- bytes that are sent, step by step
pub mod SendingLemmas
-- runs of calls, seen at what is held
pub mod HoldLemmas
-- the calls of a turn of a client's connection are one run of its life
pub mod TurnLemmas
-- what a route reads, piece by piece
pub mod ReadingLemmas
-- what it reads over its life
pub mod RouteLifeLemmas
-- frames that are handed to the hub, one after the other
pub mod RouteLemmas
-- shards that are worked, job by job and shard by shard
pub mod WorkLemmas
-- changes of what stands in a table
pub mod KeyedLemmas
-- what is taken of a shard for its clients, and sent to them
pub mod TakingLemmas
-- frames that are spelt one behind the other, and sent
pub mod TellingLemmas
