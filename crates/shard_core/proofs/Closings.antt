-- Why subscriptions close, and in which order they stand.
pub mod Closed
pub mod Ended
pub mod Fixed
pub mod Leaving
pub mod Opened
pub mod Serials
pub mod Causes
pub mod Reasons
pub mod Whys
