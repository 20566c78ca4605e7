-- Each event of a server is a step of the cluster law's node.
pub mod ShardKeeps
pub mod Lines
pub mod LineEvents
pub mod Hubs
pub mod HubEvents
pub mod GivenApart
pub mod Nodes
