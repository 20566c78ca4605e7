-- the numbers 90 to 92 of the refusals
pub mod Faults
-- the members of a JSON object, as a script has them
pub mod Members
-- the words of the member `do`
pub mod Words
-- what a step of a script says: who does what
pub mod Acts
-- the form of a script: a JSON object with `nodes`, `shards` and `steps`
pub mod Form
