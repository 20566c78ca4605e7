-- What the calls tell, put and close is the outcome of the step.
pub mod Answered
pub mod Told
pub mod Sending
pub mod Running
