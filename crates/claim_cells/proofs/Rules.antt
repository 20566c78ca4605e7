-- Each step keeps the rule of the table.
pub mod Lists
pub mod LawKept
pub mod SeatedKept
pub mod WordsKept
pub mod Moves
pub mod Opening
