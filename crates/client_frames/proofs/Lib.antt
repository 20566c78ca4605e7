pub mod Texts
pub mod SpellingCommands
pub mod Rows
