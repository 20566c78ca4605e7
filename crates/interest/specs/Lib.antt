-- the place of a key among entries whose keys rise
pub mod Places
-- the numbers 40 to 43 of the refusals
pub mod Faults
-- the order of keys is a total order, and keys that tie are the same
pub mod KeyOrder
-- interest counts: of a set of open subscriptions, for each key the number of them
pub mod Counts
-- the keys that are still to come
pub mod KeysLeft
-- the counts are those of the open: what was told of openings and closings, key by key
pub mod Told
-- deltas counted in order without a table: what each makes of a number, of a total and of what is
-- told
pub mod Tally
-- many keys take their numbers at once: what stands below a key goes on, the key takes its number,
-- and so on
pub mod Recounts
-- interest views: what a peer has told of its interest
pub mod Views
-- who wants a subject: what matches it among keys with their weights
pub mod Matches
-- patterns in the order of bytes: which beginning the next one has that may match a subject
pub mod Sights
-- the next entry, among those whose keys rise, whose pattern matches a subject
pub mod Seeks
-- what is known of a peer's interest, and what becomes of it with what the peer says
pub mod Heard
-- what counts, changes and views owe one another
pub mod Laws
