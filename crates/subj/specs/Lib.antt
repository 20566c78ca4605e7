-- one word for the contract of a call that can be refused and that takes memory
pub mod Answers
-- valid names, and the first cause for which bytes are not one
pub mod Names
-- the numbers of the refusals
pub mod Faults
-- what one pass over a text sees of its tokens
pub mod Scans
-- subject matching
pub mod Matching
-- numbers within their limits
pub mod Numbers
-- a server's name in an array: its bytes, and zeros behind them
pub mod Padding
-- the content of a publication
pub mod Messages
-- a header block and the payload behind it, which share one piece of memory
pub mod Bodies
-- a publication as a client hands it in
pub mod Publications
-- lists of queue names
pub mod QueueNames
-- the order of keys, what a key counts, and how subscriptions of one change
pub mod Keys
-- the servers of a cluster, by name and by place
pub mod Servers
