-- the command line: its commands, and what each takes
pub mod Line
-- what the command line asks for
pub mod Command
-- the ranges of the options of a mesh, and of one server
pub mod Ranges
-- the levels of what standard error tells
pub mod Levels
-- why the options of a mesh, or of one server, are refused
pub mod Refusals
