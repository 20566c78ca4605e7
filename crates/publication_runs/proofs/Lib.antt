mod Bytes
mod Names
mod Fields
mod Scanned
mod Spelt
mod Readings
-- what holds of publications that were given one after the other
pub mod Lent
