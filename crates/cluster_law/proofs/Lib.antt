pub mod Kept
pub mod Scripts
