pub mod Moves
pub mod Claims
pub mod Interest
pub mod Sessions
pub mod Outboxes
pub mod Runs
