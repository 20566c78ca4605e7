-- What a shard at work does, event by event, and what is kept in writing of it.
pub mod Joining
pub mod Following
pub mod Clients
pub mod Working
pub mod RunSteps
pub mod ClaimSteps
pub mod Runs
pub mod Claims
pub mod Placing
pub mod Drops
pub mod Telling
