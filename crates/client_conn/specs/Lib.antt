-- what one client's stream asks of a server, item by item
pub mod Items
-- asks of a client: what a connection asks of its server, as a function of the bytes fed and of the
-- answers given
pub mod Asks
-- that the asks depend on the bytes and the answers alone, however the bytes were cut and whenever
-- the answers came
pub mod Laws
-- a client's stream, read item by item
pub mod Streams
-- publications that a connection lends: their payloads stand where they were read
pub mod Lent
-- what a connection reads of a source
pub mod Feeding
-- what a connection is once the ask that it lent is no longer borrowed
pub mod Shown
-- where nothing is read any more, the connection is asked to be shut
pub mod Shuts
