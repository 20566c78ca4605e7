pub mod Places
pub mod Names
pub mod Publications
pub mod Sources
pub mod Gives
pub mod Once
