-- What waits for a connection, and its last line.
pub mod LastLines
pub mod Known
