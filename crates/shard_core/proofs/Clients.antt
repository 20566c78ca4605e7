-- Connections in order of their numbers, what waits for them, and what is staged.
pub mod Order
pub mod Lookups
pub mod Staging
pub mod Outboxes
pub mod Limits
pub mod Options
pub mod Forms
pub mod Messages
pub mod Rooms
pub mod Told
