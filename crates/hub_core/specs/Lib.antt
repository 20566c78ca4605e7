-- the numbers 60 to 69 of the refusals, and what the refusals of interest are to a hub
pub mod Faults
-- a hub as its callers see it
pub mod State
-- the choice: which server serves a queue name of a publication
pub mod Choice
-- the queue names of a publication: in order, and just those that are wanted
pub mod Wanted
-- publish: the next number and turn, one job, and one frame to each peer that is owed one
pub mod Publishing
-- receive: which numbered frames of peers are taken, and what they change
pub mod Receiving
-- collect: the deltas of a shard are counted, and what they change is told to the peers
pub mod Telling
-- peers come up and are cut, and frames are taken from their outboxes
pub mod Peers
-- what a hub is asked, and what it answers
pub mod Events
-- a hub's step: what may be asked, why an event is refused, the state after it, and the answer
pub mod Steps
-- parts of a hub's calls: whom a frame is for, and what is heard of a peer's interest
pub mod Calls
-- a hub with the server that it is of, and the calls on it
pub mod Hubs
-- a hub and its steps as the cluster law sees them: servers by their places, and neither outboxes
-- nor who is up
pub mod AsLaw
-- closed examples: what a hub answers, by hand
pub mod Examples
-- what a choice finds in code, and what a publish owes by it
pub mod Chosen
-- what is kept in mind of a server's own interest
pub mod InMind
-- who wants a subject at all servers, and what of it may be kept in mind
pub mod Audiences
-- a publication that owes the server's own shards a job and nothing else
pub mod Local
-- who serves the queue names of a publication, as it is found in code
pub mod Serving
-- whether a hub has nothing left to hear, and can go on
pub mod Settled
