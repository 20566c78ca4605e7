-- bytes that were read, and lost
pub mod Reading
-- what is told of a log that was read
pub mod Telling
