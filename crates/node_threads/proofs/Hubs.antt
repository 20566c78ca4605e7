-- What a hub at work does, event by event, as a part of its server's steps.
pub mod HubCalls
pub mod Publishing
pub mod Receiving
pub mod Running
pub mod Parts
