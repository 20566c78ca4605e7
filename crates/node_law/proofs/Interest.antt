-- The hub's counts are those of the open subscriptions.
pub mod Replays
pub mod CountsOpen
pub mod CountsKept
