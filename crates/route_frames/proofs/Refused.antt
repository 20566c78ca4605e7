-- What is refused is refused for its first cause.
pub mod Agreement
pub mod Numbered
pub mod Greetings
pub mod Whole
pub mod Answered
