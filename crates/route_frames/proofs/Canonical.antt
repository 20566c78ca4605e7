-- What the canonical spelling of a frame is made of, and that it spells the frame.
pub mod Fields
pub mod Numbered
pub mod Greetings
pub mod Frames
pub mod Beginnings
