-- What is written of frames is cut and read again.
pub mod Json
pub mod Greetings
pub mod Routes
pub mod Streams
