-- the numbers 90 and 91 of the refusals
pub mod Faults
-- how bytes are called in a line
pub mod Texts
-- the members of a JSON object, as a log has them
pub mod Members
-- what an object tells: a publication, a subscription or a placement
pub mod Entries
-- the lines of a log, and what they tell
pub mod Logs
