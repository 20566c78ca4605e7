-- a server as one value with who it is, and how its calls go
pub mod Served
-- events, answers and refusals as the code has them, and as the definitions do
pub mod InCode
-- what a step of a server comes to: its answer, what it puts into outboxes, and what closes
pub mod Outcome
-- a list of events at a server, with what is answered, and what a server promises of it
pub mod OneRun
-- a take that moves the bytes of the entries, and gives no entries
pub mod TakesBytes
-- an event whose parts are lent, as the definitions have it
pub mod Lent
-- the definitions of a server, which are those of node_law, named here too
pub use Rattle.node_law.specs.Faults
pub use Rattle.node_law.specs.Race
pub use Rattle.node_law.specs.State
pub use Rattle.node_law.specs.Events
pub use Rattle.node_law.specs.Steps
pub use Rattle.node_law.specs.Answers
pub use Rattle.node_law.specs.Sound
pub use Rattle.node_law.specs.AsLaw
pub use Rattle.node_law.specs.Runs
pub use Rattle.node_law.specs.OneServer
pub use Rattle.node_law.specs.PeersKept
pub use Rattle.node_law.specs.CountsOpen
pub use Rattle.node_law.specs.PlacedOnce
pub use Rattle.node_law.specs.Outboxes
pub use Rattle.node_law.specs.HubsSound
pub use Rattle.node_law.specs.Promises
pub use Rattle.node_law.specs.EachShard
