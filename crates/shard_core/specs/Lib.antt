-- the numbers 50 to 57 of the refusals
pub mod Faults
-- a shard as its callers see it, and its connections
pub mod Shards
-- subscriptions that close, and what each opening and closing leaves for the hub
pub mod Closings
-- what a shard owes for a job: to plain subscriptions at Begin, and to one member of a queue group
-- at a Claim
pub mod Owed
-- what a shard is asked, and what it answers
pub mod ShardEvents
-- a shard's step: why an event is refused, the state after it, and the answer
pub mod ShardSteps
-- a shard between two calls, and how its calls go
pub mod Held
-- jobs that claim one queue name, worked one after the other
pub mod ClaimRuns
-- what the code keeps of a walk, and how that follows the walk
pub mod Tallies
-- how the code comes to a candidate
pub mod Claims
-- how the calls of a shard answer
pub mod Answers
-- what an event puts into the outboxes, in order: copies of the entries, each with its connection
pub mod Puts
-- a shard together with the jobs that wait for it: what every such line keeps
pub mod Lines
-- a shard and its steps as the cluster law sees them: without outboxes, header options, deltas,
-- limits, maxima and echo
pub mod AsLaw
-- connections as a shard keeps them: what waits for each, and what will wait once what was staged
-- is shown
pub mod Boxes
-- an outbox's entries and the frames of a server agree
pub mod EntryBytes
-- the open subscriptions of a shard, and the openings and closings that its hub was not told of yet
pub mod Opened
-- what is noted of the members of queue groups that match a subject, so that one look serves all
-- queue names of a job
pub mod Members
-- an open subscription that receives a subject, with what a delivery needs of it
pub mod Received
-- what is noted of a subject, and that it holds
pub mod Notes
-- a delivery to a receiver that is noted
pub mod ReceiverSteps
-- closed examples: what a shard does, by hand
pub mod Examples
-- the limits of what waits for a connection: each connection has those of the router
pub mod Limits
-- why subscriptions close, and connections; and what every shard keeps of those that are open
pub mod Causes
-- whether a connection takes headers: no new one does, and each does as it chose last
pub mod Options
-- room for the messages of a publication
pub mod Room
-- for which connections something was put
pub mod Dirty
-- a run of jobs worked one after the other, and delivered at once; when it can be
pub mod Runs
-- a run delivered by receivers: connection after connection, and subscription after subscription
pub mod RunReceivers
-- jobs that are alike: whoever gets one of them gets them all
pub mod RunAlike
-- a run delivered to receivers that are noted
pub mod RunNoted
-- a closed example of a run
pub mod RunExample
-- how the code delivers a run
pub mod RunSteps
-- how the code works a run of claims
pub mod ClaimMembers
