-- the numbers 30 to 33 of the refusals
pub mod Faults
-- what bytes mean: a value, or the first cause for which they are refused
pub mod Meaning
-- the operations of a route
pub mod Operations
-- the five fields behind the operation of a numbered frame
pub mod CommonFields
-- the fields behind the five common ones, by their number
pub mod Arguments
-- what the line of a numbered frame means
pub mod NumberedLines
-- what the texts of INFO and CONNECT mean
pub mod Greetings
-- what the line of a route means: what its frame says so far, or why it is refused; and the payload
-- that it announces
pub mod Lines
-- what the text of a snapshot means
pub mod SnapshotTexts
-- route spelling as a computed meaning: what a line and the payload behind it say, or why they are
-- refused
pub mod Decoding
-- what was split and judged of a line, without where it lies in memory
pub mod TextViews
-- the canonical spelling of a frame: upper case, one space, no leading zeros, compact JSON with its
-- keys in the order of their bytes
pub mod Canonical
-- route spelling: which lines and payloads spell which frame, by cases on what the frame says
pub mod Spelling
-- which cause a line is refused for, the first one first
pub mod Causes
-- what a reader may answer: just what is spelt, each refusal just for its cause, and where want of
-- memory may stand
pub mod Refusals
-- laws: what is spelt is what is read, and what is written is cut and read again
pub mod Laws
-- frames in a stream: what is written one behind the other is read again, however the bytes come
pub mod InStream
