-- names of hosts
pub mod Hosts
-- addresses, as texts and as what two of them share
pub mod Addresses
-- a server, and what two of them share
pub mod Servers
-- the first two servers that share something
pub mod Pairs
-- the keys of a table
pub mod Keys
-- the server that a table describes, and why a table describes none
pub mod Entries
-- the mesh that a file describes, and why a text is no such file
pub mod Mesh
