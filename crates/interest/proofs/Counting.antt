-- Counts are the numbers of the open, and what is told of them agrees.
pub mod Places
pub mod Ties
pub mod Entries
pub mod Told
pub mod Deltas
pub mod Agreement
pub mod Limits
pub mod InOrder
pub mod InPlace
pub mod Planned
pub mod Numbered
pub mod Recounted
