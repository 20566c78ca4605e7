-- What the cluster law sees of the exact cluster.
pub mod Machine
pub mod Started
pub mod Gained
pub mod Given
pub mod Order
pub mod Waiting
pub mod Worlds
pub mod Whole
