-- what is written of a log that was read
pub mod Runs
