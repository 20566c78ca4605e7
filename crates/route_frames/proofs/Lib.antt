pub mod Operations
pub mod Cuts
pub mod Canonical
pub mod Meaning
pub mod Spelt
pub mod Refused
pub mod Again
