-- runs of writes, write by write
pub mod RunLemmas
-- a read from bytes in memory
pub mod MemoryLemmas
-- what is left of bytes of which a stream took a front
pub mod OutgoingLemmas
-- all runs of writes together
pub mod LifeLemmas
