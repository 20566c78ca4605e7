-- From the call of a part to that of the server.
pub mod Composed
pub mod Claiming
pub mod Collects
pub mod GivenJobs
pub mod Refusing
pub mod Routing
pub mod Sides
pub mod Taking
pub mod Starts
