pub mod Claiming
pub mod Greeting
pub mod Sides
pub mod Receiving
pub mod Handing
pub mod Routing
mod Resting
