pub mod Clients
pub mod Closings
mod Turns
pub mod Steps
-- entries put for connections
pub mod RunEntries
-- subscriptions counted
pub mod RunCounts
-- one job, and a run of jobs
pub mod Runs
-- a run by receivers
pub mod RunReceivers
-- jobs that are alike
pub mod RunAlike
-- receivers that are noted
pub mod RunNoted
-- a closed example of a run
pub mod RunExample
-- jobs that go together
pub mod RunJobs
-- a run that was put for receivers that are noted is delivered
pub mod RunSteps
-- connections that take a run
pub mod RunClients
-- what is noted holds whatever is counted by a run
pub mod RunOpened
-- what a shard's fields keep where a run is delivered
pub mod RunSound
-- a job that claims one queue name, and its three steps
pub mod ClaimRuns
-- room for a run of claims
pub mod ClaimRooms
-- what such a job leaves
pub mod ClaimSteps
-- its candidate is the member at the place of its turn
pub mod ClaimAsked
-- whom a run of claims may go to, once one of them is worked
pub mod ClaimPlaces
-- the members are noted, receiver after receiver
pub mod ClaimNotes
-- who is told of what is put in two steps
pub mod ClaimTold
-- one job of a run of claims, as the code works it
pub mod ClaimNext
-- the entry of a member, and the jobs that go together
pub mod ClaimStage
-- a run of claims, one job after the other
pub mod ClaimMany
-- the loop over its jobs
pub mod ClaimLoop
-- what a shard's fields keep where a run of claims is worked
pub mod ClaimSound
