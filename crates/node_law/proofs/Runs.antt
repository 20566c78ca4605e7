-- What each run keeps.
pub mod Sound
pub mod EachShard
