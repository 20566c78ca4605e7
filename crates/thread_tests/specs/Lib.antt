-- a race of two shards and its seats, as the tests have them
pub mod Claims
