-- how many lines of a kind are told
pub mod Rates
-- what becomes of a line
pub mod Backlog
-- how a line is written
pub mod Lines
