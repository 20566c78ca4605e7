pub mod Choices
pub mod Neighbours
pub mod Steps
mod ByExample
