-- what a client is told of a refusal
pub mod Refusals
