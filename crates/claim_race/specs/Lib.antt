-- claims won: of each pair of a turn and an index at most one shard wins, over the window of the
-- newest turns issued
pub mod Race
-- the race as a table that is used again: the place of a pair, and what a race with such a table
-- shows
pub mod PlainRace
