-- A server alone with one shard, and what its calls come to.
pub mod Balance
pub mod Alone
pub mod Outputs
pub mod NamesOpen
pub mod Publishing
pub mod Collecting
pub mod Working
pub mod Calls
pub mod Unchanged
