-- What was read is spelt as the relation says.
pub mod Chains
pub mod Dials
pub mod QueueNames
pub mod Fields
pub mod Bodies
pub mod Messages
pub mod Snapshots
pub mod Greetings
pub mod Numbered
pub mod Whole
