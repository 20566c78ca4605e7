-- contents of a file, and what a start may find
pub mod Disk
-- the line of a server and an incarnation
pub mod Line
-- that no later start reads a lower number
pub mod Kept
-- which incarnation a start takes, and what a refusal tells
pub mod Raising
-- what had the name of a file in memory before
pub mod Memory
