-- what a stream took and gave, call by call, and how a run of writes ends
pub mod Writes
-- what is seen of a stream in memory
pub mod Memory
-- all that happens to bytes on their way to a stream
pub mod Lives
