pub mod Seen
pub mod Runs
mod Subscriptions
mod Examples
