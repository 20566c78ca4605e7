-- what a script asks of the cluster, event by event
pub mod Asks
-- the bytes of lines
pub mod Lines
-- what comes of asking the exact cluster
pub mod Told
-- what is written of a script: the text of a run of its events in the exact cluster
pub mod Played
-- what is put behind what stands to be written
pub mod Putting
-- what the calls put that write placements
pub mod Placing
-- what the player's calls do
pub mod Playing
-- what is written of a pattern and a subject
pub mod Matching
-- what a program does that reads a script and plays it, over any reader and writer that tell their
-- bytes
pub mod Runs
-- the work that is owed of a publication, in an order of its own
pub mod Owed
-- how many messages an event placed, by its outcome
pub mod Counted
