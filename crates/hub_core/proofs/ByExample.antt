-- The examples, computed.
pub mod Computed
