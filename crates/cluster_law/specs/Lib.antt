-- a rule that can be switched off, to show what it is for
pub mod Rules
-- how things are named all over the cluster
pub mod Names
-- what a node's clients wait for, as the other nodes hear of it
pub mod Interest
-- what is published, and what nodes send to each other
pub mod Messages
-- the router's values as the law has them
pub mod Values
-- what is fixed over a run, and which rules are in force
pub mod Config
-- what was done in the cluster: lists that only grow
pub mod History
-- the hub's part of a node: it numbers publications, splits their queue names, and tells which
-- frames of others it takes
pub mod Hub
-- issuing turns, and which claims were won
pub mod Race
-- a shard's part of a node: it holds open subscriptions, and works the jobs of its line one after
-- the other
pub mod Shard
-- a node: the steps of its parts, put together
pub mod Node
-- the cluster: nodes that start and stop, and frames that were sent and are handed over at any time
-- or never
pub mod Cluster
-- what holds of every world that is reached
pub mod Headline
-- each rule counts: without it some list of events leads to a world that breaks a law
pub mod Counterexamples
-- what a run never undoes, and how a machine that knows more has these laws too
pub mod Runs
-- a run in which something is placed: for a queue member and a plain subscription of another node
pub mod Example
