-- Lists and numbers.
mod Lists
-- What a shard with room gives.
mod Shards
-- What an order of work makes of a cluster.
mod Works
-- What a publish owes in a settled cluster.
mod Plans
-- Marks of publications are reached by their origins.
mod Marks
-- The promise.
mod Promise
-- A closed script.
mod Rows
