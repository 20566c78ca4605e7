mod Lists
pub mod Numbering
mod Moves
mod Giving
