-- Which server serves each queue name.
pub mod Places
pub mod Names
pub mod Choosing
pub mod Wanted
pub mod Alone
pub mod Local
pub mod InMind
pub mod Audiences
pub mod Filled
