-- the number 58 of the refusal of a server itself
pub mod Faults
-- the race of a server as the cluster law's race: a pair is won there just where some shard has won
-- it
pub mod Race
-- a server as its callers see it
pub mod State
-- what a server is asked
pub mod Events
-- a server's step: the hub's part, the sessions' part, a shard's part and the race, put together
pub mod Steps
-- what a server answers to an event that is not refused
pub mod Answers
-- what every server keeps, from its start on
pub mod Sound
-- a server and its steps as the cluster law sees them
pub mod AsLaw
-- runs of one server: what it did since it started, the newest step first
pub mod Runs
-- one server end to end: who wins a queue name of a job, what that puts, and which jobs the shards
-- work off
pub mod OneServer
-- peers and sessions: a peer is up at an incarnation just where a kept session has it, and that is
-- the greatest seen of it
pub mod PeersKept
-- interest: what the hub counts, together with what the shards have still to tell, is what is open
pub mod CountsOpen
-- what a server places over a whole run for a queue name of a job, as one list
pub mod PlacedOnce
-- what each connection is given over a run: the replies put for it and the messages owed to it, in
-- order, and its last line
pub mod Outboxes
-- the hub of a server over its runs
pub mod HubsSound
-- what a server promises of all that it did
pub mod Promises
-- what every shard of a server keeps over its runs
pub mod EachShard
-- whether a server is at rest, and knows another one as it runs
pub mod Settled
