-- What a walk and a claim choose.
pub mod TallySteps
pub mod Claims
pub mod Groups
pub mod Notes
pub mod Received
