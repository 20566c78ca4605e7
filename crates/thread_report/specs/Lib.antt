-- what each step that was written down was asked, as an event of the server
pub mod Events
-- what shards and the hub answered there, lists whole
pub mod ShardAnswers
pub mod HubAnswers
-- what the passes of callers have to tell of it
pub mod Owed
-- which publications the hub gave to the shards
pub mod Issued
-- which messages the shards placed
pub mod Placements
-- the deltas that shards hand to the hub
pub mod Handing
-- what the end of a server on threads tells
pub mod Reports
