-- the numbers 70 to 75 of the refusals
pub mod Faults
-- the sessions of a server as its callers see them
pub mod State
-- which of two completed sessions with a peer is the better one
pub mod Best
-- what the sessions are asked, and what they answer
pub mod Events
-- a step of the sessions: why an event is refused, the state after it, and the answer
pub mod Steps
-- the sessions of a server as one value: what a call is refused for, what it does, and what always
-- holds
pub mod Calls
-- what is kept, and that two ends keep the same
pub mod Laws
-- closed examples: what sessions answer, by hand
pub mod Examples
-- the sessions over their runs: which one is kept, of all that were offered since the last one was
-- cut
pub mod OverRuns
