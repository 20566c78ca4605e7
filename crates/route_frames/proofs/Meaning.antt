-- What is spelt is read as what it spells.
pub mod Forms
pub mod Parts
pub mod Messages
pub mod Lines
pub mod Keys
pub mod Greetings
pub mod Whole
