pub mod Claims
pub mod Laned
pub mod Turns
