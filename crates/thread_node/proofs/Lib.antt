pub mod Starting
pub mod Draining
pub mod Telling
pub mod Holding
pub mod Working
pub mod Running
