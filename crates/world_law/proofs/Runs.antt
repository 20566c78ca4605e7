-- Runs: what was made, sent and counted in them, and that each event has its step.
pub mod Programs
pub mod Plays
pub mod OwnRuns
pub mod Sources
pub mod MadeOf
pub mod Counted
pub mod Sent
pub mod OfRuns
pub mod Rests
