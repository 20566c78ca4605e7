-- shards and the loops that they belong to
pub mod LoopLemmas
