mod Tokens
mod Scanned
mod Matches
mod Padded
mod Fits
pub mod Apart
mod JoinedBodies
pub mod NameBytes
pub mod Rising
