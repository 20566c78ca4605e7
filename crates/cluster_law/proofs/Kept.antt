-- What holds of each world that is reached, and that each step keeps it.
pub mod Invariants
pub mod Hubs
pub mod HubEvents
pub mod Shards
pub mod ShardEvents
pub mod ShardSteps
pub mod NodeSteps
pub mod Starts
pub mod Views
pub mod Growth
pub mod Whole
