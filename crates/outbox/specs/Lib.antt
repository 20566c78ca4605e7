-- the bytes of an entry
pub mod Bytes
-- an entry and an outbox as other crates see them
pub mod Views
-- what an outbox's fields keep
pub mod Sound
-- what stands behind the line of an entry
pub mod Behind
-- how entries are kept: small ones as bytes one behind another, larger ones and last lines as they
-- came
pub mod Kept
-- how the tails of a run are kept
pub mod Tails
