pub mod Lists
pub mod Changes
pub mod Tests
pub mod Positions
