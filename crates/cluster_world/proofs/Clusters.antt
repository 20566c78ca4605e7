-- A step of the cluster in code is that of the exact cluster.
pub mod Ended
pub mod Starting
pub mod Making
pub mod Entering
pub mod Kept
pub mod Living
pub mod Finds
pub mod Settling
pub mod Testing
pub mod Planning
