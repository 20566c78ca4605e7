pub mod WindowLemmas
pub mod SearchLemmas
pub mod CutLemmas
pub mod SinkLemmas
pub mod MemoryLemmas
pub mod ReadingLemmas
