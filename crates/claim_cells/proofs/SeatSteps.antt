-- What steps and loops leave of seats.
pub mod Kept
pub mod Behind
pub mod Rounds
pub mod Issuing
pub mod Gathering
pub mod Turns
pub mod Wins
pub mod OneSeat
pub mod Many
