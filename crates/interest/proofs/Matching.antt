-- Who wants a subject, found by jumps over sorted keys.
pub mod ByBytes
pub mod FirstTokens
pub mod Levels
pub mod Looking
pub mod Passing
pub mod Gathering
pub mod Wanting
pub mod Calls
