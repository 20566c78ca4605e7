-- Where lines and payloads end, and what stands before and behind the first field.
pub mod Behind
pub mod Spaces
pub mod Frames
pub mod Pieces
