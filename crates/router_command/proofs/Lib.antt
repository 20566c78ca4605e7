-- what a walk over words that are taken keeps
pub mod Walks
-- the rows of arguments of which each takes one value
pub mod Rows
-- words that the command line takes
pub mod Taken
-- how the command line is put together
pub mod Lines
-- how the numbers of options are read
pub mod Numbers
-- how the texts of words and options are read
pub mod Texts
-- which cause of a refusal there is
pub mod Refused
