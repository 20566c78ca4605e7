-- Each event of a shard, as its law sees it, and what it keeps.
pub mod LawEvents
pub mod Kept
pub mod Examples
